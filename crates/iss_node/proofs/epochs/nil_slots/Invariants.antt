use Rattle.std.proofs.Common.{◌≡◌, reverse}
use Rattle.std.specs.List.{filter}
use Rattle.iss_layout.specs.Layout.{slots_from}
use Rattle.iss_model.specs.Node.{is_nil_at}
use Rattle.iss_request.specs.declared.ids.Slot.{Slot}
use Rattle.iss_node.proofs.epochs.nil_slots.Given as goal

abbrev pub invariant-loop-k : goal.invariant-loop-k
invariant-loop-k l = l.nils ≡ filter (λ (s : Slot). is_nil_at (reverse l.log.entries) s.0) (slots_from l.first l.k)
