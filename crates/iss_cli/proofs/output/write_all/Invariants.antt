use Rattle.std.proofs.Common.{◌≡◌, ◌≤◌, ◌-◌, take, length}
use Rattle.iss_cli.specs.Ends.{and_more}
use Rattle.iss_cli.proofs.output.write_all.Given as goal

abbrev pub invariant-loop-put : goal.invariant-loop-put
invariant-loop-put g l = record {
  within : l.put ≤ length l.bytes;
  held : g.O.Sink.held l.out ≡ and_more (g.O.Sink.held l.initial.out) (take l.put l.bytes);
  still : g.O.Sink.faults l.out ≡ g.O.Sink.faults l.initial.out;
}

abbrev pub decreases-loop-put : goal.decreases-loop-put
decreases-loop-put g l = length l.bytes - l.put
