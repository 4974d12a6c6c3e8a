use Rattle.std.proofs.Common.{◌≡◌}
use Rattle.std.specs.List.{filter}
use Rattle.iss_layout.specs.Layout.{is_slot_of_leader, slots_from}
use Rattle.iss_layout.proofs.layout.Layout.slots_of.Given as goal

abbrev pub invariant-loop-k : goal.invariant-loop-k
invariant-loop-k l = l.slots ≡ filter (is_slot_of_leader l.self l.node.0) (slots_from l.self.start l.k)
