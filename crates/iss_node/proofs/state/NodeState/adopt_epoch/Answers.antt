use Rattle.std.proofs.Common.{arith, ◌≡◌, ◌∙◌, ℕ, List, ap, subst}
use Rattle.iss_node.proofs.Instances.ChecksRefine.{later-trans}
use Rattle.iss_node.proofs.Snapshots.EpochsAreAdopted.{adopted-epoch}
use Rattle.iss_node.specs.Internal.Inputs.{HasAppliedDeliveries}
use Rattle.iss_node.specs.Internal.Shape.{IsNodeState}
use Rattle.iss_node.specs.Internal.Transfers.{at_slots}
use Rattle.iss_node.specs.State.{StateView}
use Rattle.iss_request.specs.declared.ids.Slot.{Slot}
use Rattle.iss_request.specs.declared.requests.Value.{Value}
use Rattle.iss_node.proofs.state.NodeState.adopt_epoch.Goals as goal

pub returns-clause-adopted : goal.returns-clause-adopted
returns-clause-adopted g c = λ past certs leaf h.
    let m = g.M.Sequenced.spec in
    let v = c.args.self.now in
    let u = c.apply_deliveries.new.self in
    let shape : IsNodeState m v = subst (λ (z : StateView g.row.M.Denot g.row.M-Msg.Denot). IsNodeState m z) c.self.view_is c.self.invariant in
    let delivers : c.in_ok-delivers.delivers.items ≡ at_slots v.plan.start c.args.values =
    c.in_ok-delivers.ensures ∙ ap (λ (k : ℕ). at_slots k c.args.values) (c.first.ensures ∙ ap (λ z. z.plan.start) c.self.view_is) in
    adopted-epoch m g.M.Sequenced.refines v u c.next_epoch.new.self shape c.args.values c.requires _ _ c.in_ok-_none._none.items
    (subst (λ (ds : List (Slot × Value)). HasAppliedDeliveries v u ds) delivers c.in_ok-apply_deliveries.ensures.grown) c.in_ok-apply_deliveries.ensures.hashed
    c.in_ok-_none.ensures.next c.in_ok-_none.ensures.later past certs leaf h

pub returns-clause-later : goal.returns-clause-later
returns-clause-later g c = later-trans c.args.self.now c.apply_deliveries.new.self c.next_epoch.new.self c.apply_deliveries.ensures.later c.next_epoch.ensures.later

pub returns-in_err-_none-clause-later : goal.returns-in_err-_none-clause-later
returns-in_err-_none-clause-later g c = later-trans c.args.self.now c.apply_deliveries.new.self c.next_epoch.new.self c.apply_deliveries.ensures.later c.next_epoch.ensures.later

pub at_slots-requires : goal.at_slots-requires
at_slots-requires g c =
    let m = g.M.Sequenced.spec in
    let v = c.args.self.now in
    let shape : IsNodeState m v = subst (λ (z : StateView g.row.M.Denot g.row.M-Msg.Denot). IsNodeState m z) c.self.view_is c.self.invariant in
    let first = c.first.ensures ∙ ap (λ z. z.plan.start) c.self.view_is in
    let whole = c.requires in
    let fits = shape.fits in
    omega (arith, first, whole, fits)
