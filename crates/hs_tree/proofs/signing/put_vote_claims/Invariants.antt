use Rattle.std.proofs.Common.{◌≡◌, ◌++◌, take}
use Rattle.std.specs.List.{flat_map}
use Rattle.hs_tree.proofs.Stated.{one_claim}
use Rattle.hs_tree.proofs.signing.put_vote_claims.Given as goal

abbrev pub invariant-loop-vote : goal.invariant-loop-vote
invariant-loop-vote l = l.all ≡ l.fn.all ++ flat_map (one_claim l.statement) (take l.vote-index l.votes)
