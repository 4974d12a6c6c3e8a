use Rattle.std.proofs.Common.{◌≡◌, ◌+◌, ◌-◌, ◌≤◌, length, take}
use Rattle.iss_journal.specs.Frames.{frames}
use Rattle.iss_journal.specs.Retained.{behind}
use Rattle.iss_journal.specs.RetainedViews.{shown_in}
use Rattle.iss_journal.proofs.retained.Retained.gate_behind.Given as goal

abbrev pub invariant-loop-i : goal.invariant-loop-i
invariant-loop-i l = record {
  from : length l.self.gates.items ≤ l.i;
  lies : l.gate ≡ l.self.start
      + length (frames (take (l.i - length l.self.gates.items) (behind (shown_in l.self))));
}
