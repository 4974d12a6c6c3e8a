use Rattle.std.proofs.Common.{List, ◌++◌, take}
use Rattle.iss_rules.specs.Books.{Signed}
use Rattle.iss_model.specs.Run.{as_signed}
use Rattle.iss_world.specs.Books.{AreSigned}
use Rattle.iss_world.proofs.claims.Claims.book.Given as goal

abbrev pub invariant-loop-claim : goal.invariant-loop-claim
invariant-loop-claim l = (book : List Signed) → AreSigned l.fn.self book → AreSigned l.self (as_signed (take l.claim-index l.own) ++ book)
