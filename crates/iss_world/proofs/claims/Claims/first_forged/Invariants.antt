use Rattle.std.proofs.Common.{◌≡◌, List, None, take}
use Rattle.iss_rules.specs.Books.{Signed}
use Rattle.iss_rules.specs.Concrete.{rules_of}
use Rattle.iss_model.specs.Run.{first_forged}
use Rattle.iss_world.specs.Books.{AreSigned}
use Rattle.iss_world.proofs.claims.Claims.first_forged.Given as goal

abbrev pub invariant-loop-claim : goal.invariant-loop-claim
invariant-loop-claim l = (book : List Signed) → AreSigned l.self book → first_forged l.members (rules_of l.members) book (take l.claim-index l.claims) ≡ None
