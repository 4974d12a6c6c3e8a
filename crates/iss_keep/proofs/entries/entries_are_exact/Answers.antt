use Rattle.iss_keep.proofs.EntryLemmas.{entry-read, read-spelled}
use Rattle.iss_keep.proofs.entries.entries_are_exact.Goals as goal

pub returns : goal.returns
returns c = λ n entry event. (read-spelled n entry event, entry-read n entry event)
