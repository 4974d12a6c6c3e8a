use Rattle.std.proofs.Common.{◌≡◌, ◌≤◌, suc, length, nat_le}
use Rattle.std.specs.List.{filter}
use Rattle.iss_layout.specs.Layout.{carried, nodes_below}
use Rattle.iss_layout.proofs.candidates.Candidates.as_bad.Given as goal

abbrev pub invariant-loop-i : goal.invariant-loop-i
invariant-loop-i l = record {
  few : l.found ≤ l.i;
  found : l.found ≡ length (filter (λ j. nat_le (suc l.worst.0) (carried l.self.standing.now j.0).worst) (nodes_below l.i));
}
