use Rattle.std.proofs.Common.{◌≡◌, ◌∙◌, ℕ, List, Some, ap, arith, subst, sym}
use Rattle.std.proofs.lemmas.Result.{IfOk-weaker}
use Rattle.iss_ballots.specs.Ballots.{AreKept, BallotsState}
use Rattle.iss_model.specs.Node.{takes_each, then_turn}
use Rattle.iss_node.proofs.StateTransfer.AdoptionRefines.{adopted-all, adopted-open, adopted-fits, kept-same}
use Rattle.iss_node.proofs.Instances.ChecksRefine.{same-on}
use Rattle.iss_node.specs.Entered.{IsEntryOf}
use Rattle.iss_node.specs.Internal.Inputs.{HasAppliedDeliveries}
use Rattle.iss_node.specs.Internal.Shape.{IsNodeState}
use Rattle.iss_node.specs.State.{StateView, seen_early}
use Rattle.iss_node.specs.Steps.{IsLater, IsNextEpoch, IsTurnBehind}
use Rattle.iss_node.specs.Internal.Transfers.{IsAdoptedBy, at_slots}
use Rattle.iss_node.specs.declared.answers.Early.{Early}
use Rattle.iss_node.specs.declared.answers.Outcome.{Outcome}
use Rattle.iss_request.specs.declared.ids.Slot.{Slot}
use Rattle.iss_request.specs.declared.requests.Value.{Value}
use Rattle.iss_node.proofs.state.NodeState.adopt.Goals as goal

pub returns-in_err-early-clause-same : goal.returns-in_err-early-clause-same
returns-in_err-early-clause-same g c =
    let kept : StateView g.row.M.Denot g.row.M-Msg.Denot → StateView g.row.M.Denot g.row.M-Msg.Denot = λ z. record z { ballots = c.keep.new.self } in
    kept-same c.args.self.now c.apply_deliveries.new.self c.next_epoch.new.self c.keep.new.self c.apply_deliveries.ensures.later
    (subst (λ (z : StateView g.row.M.Denot g.row.M-Msg.Denot). IsLater z c.next_epoch.new.self) (ap kept c.self-2.view_is) c.next_epoch.ensures.later)

pub returns-clause-adopted : goal.returns-clause-adopted
returns-clause-adopted g c =
    let m = g.M.Sequenced.spec in
    let refines = g.M.Sequenced.refines in
    let v = c.args.self.now in
    let u = c.apply_deliveries.new.self in
    let w = c.next_epoch.new.self in
    let p = c.args.piece in
    let strings = c.apply_deliveries.new.hashed in
    let early = c.in_ok-early.early.items in
    let shape : IsNodeState m v = subst (λ (z : StateView g.row.M.Denot g.row.M-Msg.Denot). IsNodeState m z) c.self.view_is c.self.invariant in
    let kept : StateView g.row.M.Denot g.row.M-Msg.Denot → StateView g.row.M.Denot g.row.M-Msg.Denot = λ z. record z { ballots = c.keep.new.self } in
    let bytes = c.in_ok-bytes.bytes in
    let hashing : Outcome → Outcome = λ z. record z { hashed = strings; entered = Some bytes } in
    let first : Outcome = hashing c.nothing-outcome.result in
    let delivers : c.in_ok-delivers.delivers.items ≡ at_slots v.plan.start p.values =
    c.in_ok-delivers.ensures ∙ ap (λ (k : ℕ). at_slots k p.values) (c.first.ensures ∙ ap (λ z. z.plan.start) c.self.view_is) in
    IfOk-weaker c.take_each.result
    (λ o. IsTurnBehind m refines w (λ F R me t. then_turn t (takes_each F R m me w.epoch (seen_early early))) first c.take_each.new.self o)
    (λ o. IsAdoptedBy m refines v p c.args.hashed c.take_each.new.self o)
    (λ o h. adopted-all m refines v u w c.take_each.new.self shape p c.args.hashed strings c.keep.new.self early first o
    (subst (λ (ds : List (Slot × Value)). HasAppliedDeliveries v u ds) delivers c.in_ok-apply_deliveries.ensures.grown) c.in_ok-apply_deliveries.ensures.hashed
    (λ votes certs k. c.in_ok-keep.ensures.kept votes certs (subst (λ (b : BallotsState). AreKept b votes certs) (sym (ap (λ z. z.ballots) c.self-2.view_is)) k))
    (subst (λ (z : StateView g.row.M.Denot g.row.M-Msg.Denot). IsNextEpoch refines z w early) (ap kept c.self-2.view_is) c.in_ok-early.ensures.next)
    (subst (λ (z : StateView g.row.M.Denot g.row.M-Msg.Denot). IsLater z w) (ap kept c.self-2.view_is) c.in_ok-early.ensures.later)
    bytes (subst (λ (xs : List (Early g.row.M-Msg.Denot)). IsEntryOf m refines w xs bytes) c.as_slice.ensures.value c.in_ok-bytes.ensures) (ap hashing c.nothing-outcome.ensures) h c.take_each.ensures.later)
    c.take_each.ensures.turn

pub returns-clause-same : goal.returns-clause-same
returns-clause-same g c =
    let kept : StateView g.row.M.Denot g.row.M-Msg.Denot → StateView g.row.M.Denot g.row.M-Msg.Denot = λ z. record z { ballots = c.keep.new.self } in
    same-on c.args.self.now c.next_epoch.new.self c.take_each.new.self
    (kept-same c.args.self.now c.apply_deliveries.new.self c.next_epoch.new.self c.keep.new.self c.apply_deliveries.ensures.later
    (subst (λ (z : StateView g.row.M.Denot g.row.M-Msg.Denot). IsLater z c.next_epoch.new.self) (ap kept c.self-2.view_is) c.next_epoch.ensures.later))
    c.take_each.ensures.later

pub at_slots-requires : goal.at_slots-requires
at_slots-requires g c =
    let m = g.M.Sequenced.spec in
    let v = c.args.self.now in
    let shape : IsNodeState m v = subst (λ (z : StateView g.row.M.Denot g.row.M-Msg.Denot). IsNodeState m z) c.self.view_is c.self.invariant in
    let first = c.first.ensures ∙ ap (λ z. z.plan.start) c.self.view_is in
    let fits = adopted-fits m g.M.Sequenced.refines v shape c.args.piece c.args.hashed c.requires in
    omega (arith, first, fits)

pub take_each-requires-clause-lasts : goal.take_each-requires-clause-lasts
take_each-requires-clause-lasts g c =
    let m = g.M.Sequenced.spec in
    let refines = g.M.Sequenced.refines in
    let v = c.args.self.now in
    let u = c.apply_deliveries.new.self in
    let w = c.next_epoch.new.self in
    let p = c.args.piece in
    let strings = c.apply_deliveries.new.hashed in
    let early = c.in_ok-early.early.items in
    let shape : IsNodeState m v = subst (λ (z : StateView g.row.M.Denot g.row.M-Msg.Denot). IsNodeState m z) c.self.view_is c.self.invariant in
    let kept : StateView g.row.M.Denot g.row.M-Msg.Denot → StateView g.row.M.Denot g.row.M-Msg.Denot = λ z. record z { ballots = c.keep.new.self } in
    let delivers : c.in_ok-delivers.delivers.items ≡ at_slots v.plan.start p.values =
    c.in_ok-delivers.ensures ∙ ap (λ (k : ℕ). at_slots k p.values) (c.first.ensures ∙ ap (λ z. z.plan.start) c.self.view_is) in
    adopted-open m refines v u w shape p c.args.hashed strings c.keep.new.self early
    (subst (λ (ds : List (Slot × Value)). HasAppliedDeliveries v u ds) delivers c.in_ok-apply_deliveries.ensures.grown) c.in_ok-apply_deliveries.ensures.hashed
    (subst (λ (z : StateView g.row.M.Denot g.row.M-Msg.Denot). IsNextEpoch refines z w early) (ap kept c.self-2.view_is) c.in_ok-early.ensures.next)
    (subst (λ (z : StateView g.row.M.Denot g.row.M-Msg.Denot). IsLater z w) (ap kept c.self-2.view_is) c.in_ok-early.ensures.later)
    c.requires

pub entry-requires : goal.entry-requires
entry-requires g c =
    let m = g.M.Sequenced.spec in
    let refines = g.M.Sequenced.refines in
    let v = c.args.self.now in
    let u = c.apply_deliveries.new.self in
    let w = c.next_epoch.new.self in
    let p = c.args.piece in
    let strings = c.apply_deliveries.new.hashed in
    let early = c.in_ok-early.early.items in
    let shape : IsNodeState m v = subst (λ (z : StateView g.row.M.Denot g.row.M-Msg.Denot). IsNodeState m z) c.self.view_is c.self.invariant in
    let kept : StateView g.row.M.Denot g.row.M-Msg.Denot → StateView g.row.M.Denot g.row.M-Msg.Denot = λ z. record z { ballots = c.keep.new.self } in
    let delivers : c.in_ok-delivers.delivers.items ≡ at_slots v.plan.start p.values =
    c.in_ok-delivers.ensures ∙ ap (λ (k : ℕ). at_slots k p.values) (c.first.ensures ∙ ap (λ z. z.plan.start) c.self.view_is) in
    (adopted-open m refines v u w shape p c.args.hashed strings c.keep.new.self early
    (subst (λ (ds : List (Slot × Value)). HasAppliedDeliveries v u ds) delivers c.in_ok-apply_deliveries.ensures.grown) c.in_ok-apply_deliveries.ensures.hashed
    (subst (λ (z : StateView g.row.M.Denot g.row.M-Msg.Denot). IsNextEpoch refines z w early) (ap kept c.self-2.view_is) c.in_ok-early.ensures.next)
    (subst (λ (z : StateView g.row.M.Denot g.row.M-Msg.Denot). IsLater z w) (ap kept c.self-2.view_is) c.in_ok-early.ensures.later)
    c.requires).refined
