use Rattle.std.proofs.Common.{◌≡◌, take}
use Rattle.std.specs.List.{filter}
use Rattle.iss_layout.specs.Layout.{is_slot_of_leader, past_all}
use Rattle.iss_layout.specs.Internal.Standings.{behind}
use Rattle.iss_layout.proofs.standing.Outcome.worst_under.Given as goal

abbrev pub invariant-loop-slot : goal.invariant-loop-slot
invariant-loop-slot l = behind l.worst ≡ past_all (filter (is_slot_of_leader l.self.layout.now l.node.0) (take l.slot-index l.self.nil_slots.now))
