use Rattle.std.proofs.Common.{◌∙◌, ℕ, ap, subst, sym, List}
use Rattle.std.proofs.lemmas.Result.{IfOk-weaker}
use Rattle.iss_node.proofs.Wire.ClaimsAgree.{handed-same}
use Rattle.iss_node.proofs.Steps.OutcomesCompose.{on-ok}
use Rattle.iss_node.proofs.WaitingRequests.RequestRefines.{absorbed-all, chained-after, now-its-own}
use Rattle.iss_node.specs.Internal.Inputs.{HasAppliedEffects, IsChained, IsHandedOut}
use Rattle.iss_sb.specs.declared.effects.To.{To}
use Rattle.iss_node.proofs.state.NodeState.apply_effects.Goals as goal

pub returns-clause-absorbed : goal.returns-clause-absorbed
returns-clause-absorbed g c = on-ok c.hand_out.result (HasAppliedEffects c.args.self.now c.apply_deliveries.new.self c.args.leader c.args.effects)
    (absorbed-all c.args.self.now c.accept.new.self c.apply_deliveries.new.self c.args.leader c.args.effects c.into_vec.result.items c.in_ok-accept.ensures.accepted c.in_ok-apply_deliveries.ensures.grown c.into_vec.ensures)

pub returns-clause-made : goal.returns-clause-made
returns-clause-made g c =
    let m = g.M.Sequenced.spec in
    let v = c.args.self.now in
    let w = c.apply_deliveries.new.self in
    let l = c.args.leader.0 in
    let ef = c.args.effects in
    let grown = c.in_ok-apply_deliveries.ensures.grown.rest in
    let accepted = c.in_ok-accept.ensures.accepted in
    let strings = c.apply_deliveries.new.hashed in
    IfOk-weaker c.hand_out.result (IsHandedOut m w l c.as_slice.result.now strings) (λ o. IsHandedOut m v l ef.sends o.hashed o)
    (λ o h. now-its-own m v l ef.sends strings o (handed-same m v w l ef.sends strings o
    (ap (λ z. z.setup) grown ∙ ap (λ z. z.setup) accepted) (ap (λ z. z.me) grown ∙ ap (λ z. z.me) accepted)
    (ap (λ z. z.epoch) grown ∙ ap (λ z. z.epoch) accepted) (ap (λ z. z.segments) grown ∙ ap (λ z. z.segments) accepted)
    (subst (λ (xs : List (To × g.row.M-Msg.Denot)). IsHandedOut m w l xs strings o) c.as_slice.ensures h)))
    c.hand_out.ensures

pub returns-clause-hashed : goal.returns-clause-hashed
returns-clause-hashed g c =
    IfOk-weaker c.hand_out.result (IsHandedOut g.M.Sequenced.spec c.apply_deliveries.new.self c.args.leader.0 c.as_slice.result.now c.apply_deliveries.new.hashed) (λ o. IsChained c.args.self.now c.apply_deliveries.new.self c.args.effects.hashed o.hashed)
    (λ o h. subst (λ (xs : List (List ℕ)). IsChained c.args.self.now c.apply_deliveries.new.self c.args.effects.hashed xs) (sym h.hashed_is)
    (chained-after c.args.self.now c.accept.new.self c.apply_deliveries.new.self _ _ _ c.in_ok-accept.ensures.accepted c.in_ok-apply_deliveries.ensures.hashed))
    c.hand_out.ensures
