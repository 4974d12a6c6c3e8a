use Rattle.iss_journal.proofs.Grammar.{one_reading}
use Rattle.iss_journal.proofs.Showing.{shown_once}
use Rattle.iss_journal.proofs.SomeReading.{some_reading}
use Rattle.iss_journal.proofs.laws.a_file_has_one_reading.Goals as goal

pub returns : goal.returns
returns c = record { some = some_reading; one = one_reading; shown = shown_once }
