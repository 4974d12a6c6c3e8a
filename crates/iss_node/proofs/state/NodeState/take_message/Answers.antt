use Rattle.std.proofs.Common.{◌∙◌, suc, ap, sym, subst, eqb}
use Rattle.std.proofs.lemmas.Result.{IfOk-weaker}
use Rattle.iss_base.proofs.Lists.{eqb-other, is-eq}
use Rattle.iss_model.specs.Node.{finish_step, keeps_early, takes_message, try_step}
use Rattle.iss_node.proofs.EpochEnd.EarlyMessagesAreKept.{next-step, now-is, other-is}
use Rattle.iss_node.specs.Internal.Shape.{IsNodeState}
use Rattle.iss_node.specs.State.{StateView, seen_one}
use Rattle.iss_node.specs.Steps.{IsStepOf}
use Rattle.iss_sb.specs.declared.effects.Input.TheVariants.{Receive}
use Rattle.iss_node.proofs.state.NodeState.take_message.Goals as goal

pub returns-then-epoch-self-clause-answer : goal.returns-then-epoch-self-clause-answer
returns-then-epoch-self-clause-answer g c =
    let m = g.M.Sequenced.spec in
    let v = c.args.self.now in
    let shape : IsNodeState m v = subst (λ (z : StateView g.row.M.Denot g.row.M-Msg.Denot). IsNodeState m z) c.self.view_is c.self.invariant in
    let same = c.if-epoch-self.true ∙ ap (λ z. z.epoch) c.self.view_is in
    IfOk-weaker c.take_now.result
    (λ a. IsStepOf m g.M.Sequenced.refines v (λ F R me d. finish_step F R m me (try_step F R m me d c.args.message.leader.0 (Receive c.args.message.from c.args.message.msg))) c.take_now.new.self a)
    (λ a. IsStepOf m g.M.Sequenced.refines v (λ F R me d. takes_message F R m me d c.args.message.from.0 c.args.epoch.0 c.args.message.leader.0 c.args.message.msg) c.take_now.new.self a)
    (λ a h past tied. now-is m g.M.Sequenced.refines v shape past tied c.take_now.new.self c.args.message.from.0 c.args.epoch.0 c.args.message.leader c.args.message.msg a same (h past tied))
    c.take_now.ensures.answer

pub returns-then-is_next-clause-answer : goal.returns-then-is_next-clause-answer
returns-then-is_next-clause-answer g c =
    let m = g.M.Sequenced.spec in
    let v = c.args.self.now in
    let shape : IsNodeState m v = subst (λ (z : StateView g.row.M.Denot g.row.M-Msg.Denot). IsNodeState m z) c.self.view_is c.self.invariant in
    let next = is-eq c.args.epoch.0 (suc c.self.inside.epoch.0) (sym c.is_next.ensures ∙ c.if-is_next.true) ∙ ap (λ z. suc z.epoch) c.self.view_is in
    IfOk-weaker c.keep_early.result
    (λ a. IsStepOf m g.M.Sequenced.refines v (λ F R me d. keeps_early d (seen_one c.args.message)) c.keep_early.new.self a)
    (λ a. IsStepOf m g.M.Sequenced.refines v (λ F R me d. takes_message F R m me d c.args.message.from.0 c.args.epoch.0 c.args.message.leader.0 c.args.message.msg) c.keep_early.new.self a)
    (λ a h past tied. next-step m g.M.Sequenced.refines v shape past tied c.keep_early.new.self c.args.message.from.0 c.args.epoch.0 c.args.message.leader c.args.message.msg a next (h past tied))
    c.keep_early.ensures.answer

pub returns-clause-answer : goal.returns-clause-answer
returns-clause-answer g c = λ past tied.
    let m = g.M.Sequenced.spec in
    let v = c.args.self.now in
    let shape : IsNodeState m v = subst (λ (z : StateView g.row.M.Denot g.row.M-Msg.Denot). IsNodeState m z) c.self.view_is c.self.invariant in
    let first = eqb-other c.args.epoch.0 v.epoch (λ e. c.if-epoch-self.false (e ∙ sym (ap (λ z. z.epoch) c.self.view_is))) in
    let second = ap (λ z. eqb c.args.epoch.0 (suc z.epoch)) (sym c.self.view_is) ∙ sym c.is_next.ensures ∙ c.if-is_next.false in
    other-is m g.M.Sequenced.refines v shape past tied c.args.message.from.0 c.args.epoch.0 c.args.message.leader c.args.message.msg first second
