use Rattle.std.proofs.Common.{◌<◌, ◌-◌, length}
use Rattle.iss_journal.specs.Views.{AreMarks, IsBook, entries_at}
use Rattle.iss_journal.proofs.scan.read_entries.Given as goal

abbrev pub invariant-loop-bytes : goal.invariant-loop-bytes
invariant-loop-bytes l = record {
  book : IsBook l.bytes.items l.count l.at;
  marked : AreMarks l.marks.items (entries_at l.bytes.items l.count);
  within : l.at < length l.bytes.items;
}

abbrev pub decreases-loop-bytes : goal.decreases-loop-bytes
decreases-loop-bytes l = length l.bytes.items - l.at
