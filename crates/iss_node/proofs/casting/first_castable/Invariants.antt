use Rattle.std.proofs.Common.{◌≡◌, List, drop}
use Rattle.iss_model.specs.Node.{first_slot}
use Rattle.iss_node.specs.Internal.Casts.{is_open}
use Rattle.iss_segment.specs.Instance.{RefinesItems}
use Rattle.iss_sb.specs.Evidence.{Item}
use Rattle.iss_node.proofs.casting.first_castable.Given as goal

abbrev pub invariant-loop-slot : goal.invariant-loop-slot
invariant-loop-slot g l = (xs : List (Item g.row.M-Msg.Denot)) → RefinesItems g.M.Sequenced.refines l.segment xs →
    first_slot (is_open g.M.Sequenced.spec l.segment.params l.segment.me.0 xs l.log l.flight.casts) l.slots ≡ first_slot (is_open g.M.Sequenced.spec l.segment.params l.segment.me.0 xs l.log l.flight.casts) (drop l.slot-index l.slots)
