use Rattle.std.proofs.Common.{◌≡◌, ◌≤◌, length, take}
use Rattle.std.specs.List.{filter}
use Rattle.iss_layout.specs.Layout.{carried, may_lead, nodes_below}
use Rattle.iss_layout.proofs.candidates.Candidates.allowed.Given as goal

abbrev pub invariant-loop-i : goal.invariant-loop-i
invariant-loop-i l = record {
  size : length l.leaders ≡ 10;
  few : l.count ≤ l.i;
  front : take l.count l.leaders ≡ filter (may_lead l.self.setup.now.policy l.self.setup.now (carried l.self.standing.now)) (nodes_below l.i);
  long : l.count ≡ length (filter (may_lead l.self.setup.now.policy l.self.setup.now (carried l.self.standing.now)) (nodes_below l.i));
}
