use Rattle.std.proofs.Common.{◌≡◌, ◌≤◌, ◌-◌, length}
use Rattle.iss_cli.proofs.EndLemmas.{IsRead}
use Rattle.iss_cli.proofs.input.read_up_to.Given as goal

abbrev pub invariant-loop-bytes : goal.invariant-loop-bytes
invariant-loop-bytes g l = record {
  within : length l.bytes.items ≤ l.most;
  piece : length l.buffer.items ≡ l.piece;
  read : IsRead (g.I.Source.left l.initial.input) (g.I.Source.left l.input) l.bytes.items;
  gave : g.I.Source.empties l.input ≡ g.I.Source.empties l.initial.input;
  still : g.I.Source.faults l.input ≡ g.I.Source.faults l.initial.input;
}

abbrev pub decreases-loop-bytes : goal.decreases-loop-bytes
decreases-loop-bytes g l = l.most - length l.bytes.items
