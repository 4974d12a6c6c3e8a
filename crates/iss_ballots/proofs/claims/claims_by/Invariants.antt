use Rattle.std.proofs.Common.{◌≡◌, take}
use Rattle.iss_rules.specs.Votes.{claims_by}
use Rattle.iss_ballots.proofs.claims.claims_by.Given as goal

abbrev pub invariant-loop-signed : goal.invariant-loop-signed
invariant-loop-signed l = l.claims ≡ claims_by l.statement (take l.signed-index l.signers)
