use Rattle.std.proofs.Common.{◌≡◌, ◌∙◌, ap, sym, subst, Some}
use Rattle.iss_model.specs.Node.{first_slot}
use Rattle.iss_node.proofs.Instances.ProposalRefines.{next-is}
use Rattle.iss_node.specs.Internal.Casts.{is_open}
use Rattle.iss_node.specs.Internal.Shape.{IsNodeState}
use Rattle.iss_node.specs.State.{StateView, led}
use Rattle.iss_node.proofs.state.NodeState.next_slot.Goals as goal

pub returns : goal.returns
returns g c = λ past g' tied at.
    let m = g.M.Sequenced.spec in
    let v = c.args.self.now in
    let shape : IsNodeState m v = subst (λ (z : StateView g.row.M.Denot g.row.M-Msg.Denot). IsNodeState m z) c.self.view_is c.self.invariant in
    let here : led v.segments v.me.0 ≡ Some c.in_ok-segment.segment.now =
    sym (c.in_ok-segment.ensures.led ∙ ap (λ z. led v.segments z.me.0) c.self.view_is) in
    next-is m g.M.Sequenced.refines v shape past tied c.in_ok-segment.segment.now here c.first_castable.result c.as_slice-slots.result.now (c.as_slice-slots.ensures ∙ ap (λ p. p.slots) c.params.ensures.same)
    (λ xs h. c.first_castable.ensures xs h ∙ ap (λ z. first_slot (is_open m c.in_ok-segment.segment.now.params c.in_ok-segment.segment.now.me.0 xs z.log z.flight.casts) c.as_slice-slots.result.now) c.self.view_is)
