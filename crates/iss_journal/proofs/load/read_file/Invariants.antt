use Rattle.std.proofs.Common.{◌≡◌, ◌≤◌, ◌-◌, length, take}
use Rattle.iss_disk.specs.Calls.{IfTold, Stays, Takes}
use Rattle.iss_journal.specs.Promises.{Works}
use Rattle.iss_journal.proofs.load.read_file.Given as goal

abbrev pub invariant-loop-at : goal.invariant-loop-at
invariant-loop-at g l = record {
  within : l.at ≤ length l.bytes.items;
  whole : IfTold (g.D.Disk.state l.fn.disk).history (λ file. length l.bytes.items ≡ length file.content);
  front : IfTold (g.D.Disk.state l.fn.disk).history (λ file. take l.at l.bytes.items ≡ take l.at file.content);
  history : (g.D.Disk.state l.disk).history ≡ (g.D.Disk.state l.fn.disk).history;
  same : Stays (g.D.Disk.state l.fn.disk).current (g.D.Disk.state l.disk).current (g.D.Disk.state l.fn.disk).files
      (g.D.Disk.state l.disk).files;
  room : Takes 0 0 (g.D.Disk.state l.fn.disk).room (g.D.Disk.state l.disk).room;
  faults : (g.D.Disk.state l.fn.disk).faults ≤ (g.D.Disk.state l.disk).faults;
  works : Works (g.D.Disk.state l.fn.disk).passes (g.D.Disk.state l.disk).passes ⊥;
}

abbrev pub decreases-loop-at : goal.decreases-loop-at
decreases-loop-at g l = length l.bytes.items - l.at
