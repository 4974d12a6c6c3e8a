-- What a vote claims: that its node signed the statement of the vote, under the tag of the cluster.
use Rattle.std.specs.Prelude.{ℕ, List}
use Rattle.iss_checkpoint.specs.Votes.{vote_statement}
use Rattle.iss_checkpoint.specs.declared.votes.Vote.{Vote}
use Rattle.iss_sb.specs.declared.effects.Claim.{Claim}

abbrev pub claim_by : List ℕ → Vote → Claim
claim_by tag v = record { by = v.by; statement = vote_statement tag v.epoch.0 v.chain v.requests; sig = v.sig }
