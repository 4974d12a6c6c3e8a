use Rattle.std.proofs.Common.{◌≡◌, ◌+◌, ◌*◌, ◌/◌, length, take}
use Rattle.iss_journal.specs.EntryViews.{entries_in}
use Rattle.iss_journal.specs.Frames.{frames}
use Rattle.iss_journal.proofs.entries.Entries.gate_of.Given as goal

abbrev pub invariant-loop-i : goal.invariant-loop-i
invariant-loop-i l = record { lies : l.gate ≡ length (frames (take (8 * (l.k / 8) + l.i) (entries_in l.self))) }
