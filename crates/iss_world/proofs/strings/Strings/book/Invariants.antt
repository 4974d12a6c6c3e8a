use Rattle.std.proofs.Common.{List, ℕ, take}
use Rattle.iss_world.specs.Books.{AreHashed}
use Rattle.iss_world.proofs.BookLemmas.{AreApart}
use Rattle.iss_world.proofs.strings.Strings.book.Given as goal

abbrev pub invariant-loop-string : goal.invariant-loop-string
invariant-loop-string l = (book : List (List ℕ)) → AreHashed l.fn.self book → AreApart l.self (take l.string-index l.strings) book
