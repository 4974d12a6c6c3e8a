use Rattle.std.proofs.Common.{List, ℕ}
use Rattle.iss_world.specs.Books.{AreHashed}
use Rattle.iss_world.proofs.strings.Strings.share.Given as goal

abbrev pub invariant-loop-value : goal.invariant-loop-value
invariant-loop-value l = (book : List (List ℕ)) → AreHashed l.fn.self book → AreHashed l.self book
