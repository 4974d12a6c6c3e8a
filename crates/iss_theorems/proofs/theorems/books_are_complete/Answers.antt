use Rattle.iss_theorems.proofs.StoppedRuns.BooksAreWritten.{are-written}
use Rattle.iss_rules.proofs.Written.{faithful}
use Rattle.iss_theorems.proofs.theorems.books_are_complete.Goals as goal

pub returns : goal.returns
returns g c =
    let M = g.M.Sequenced.spec in
    let laws = c.laws.ensures in
    λ s h. are-written s M h (faithful s M laws.grammar) laws.lawful laws.safe
