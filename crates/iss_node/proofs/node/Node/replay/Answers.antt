use Rattle.std.proofs.Common.{ap, rules, ◌≡◌, ◌∙◌, Bool, false, None, refl, sym, subst, Ok}
use Rattle.iss_rules.specs.Concrete.{rules_of}
use Rattle.iss_rules.specs.Formats.{formats_of}
use Rattle.iss_model.specs.Node.{step}
use Rattle.iss_node.proofs.Steps.AnswersRefine.{answer-replayed, answer-taken, node-taken}
use Rattle.iss_node.specs.Internal.Ready.{RefinesSome}
use Rattle.iss_node.specs.Internal.Shape.{IsNode}
use Rattle.iss_node.specs.State.{NodeView, RefinesCore, StateView}
use Rattle.iss_node.specs.Steps.{IsHeldStepOf, IsOfNodes, IsTurn}
use Rattle.iss_node.specs.declared.answers.Outcome.{Outcome}
use Rattle.iss_node.proofs.EpochEnd.LeafIsKept.{refines-some}
use Rattle.iss_node.proofs.node.Node.replay.Goals as goal

pub invariant_of-self : goal.invariant_of-self
invariant_of-self g c =
    let m = g.M.Sequenced.spec in
    let v = c.self.inside.state in
    let fresh : c.self.inside.stale ≡ false = search rules in
    let was = subst (λ (s : Bool). IsNode m g.M.Sequenced.refines (record { state = v; stale = s })) fresh c.self.invariant in
    let answer = rw c.in-Ok-Ok.field-0-is at c.in-Ok-Ok.ensures.answer in
    let taken : IsHeldStepOf m g.M.Sequenced.refines (IsOfNodes v.setup.n c.args.event) v (λ F R me d. step F R m me d c.args.event) c.turn.new.self (Ok c.in-Ok-Ok.outcome) = rw (← c.self-inside.view_is) answer in
    subst (λ (z : StateView g.row.M.Denot g.row.M-Msg.Denot). IsNode m g.M.Sequenced.refines (record { state = z; stale = false })) (sym (ap (λ z. z.state) c.self-inside-2.view_is))
    (node-taken m g.M.Sequenced.refines v c.turn.new.self false c.args.event c.in-Ok-Ok.outcome taken refl was)

pub returns-in-Ok-Ok-clause-answer : goal.returns-in-Ok-Ok-clause-answer
returns-in-Ok-Ok-clause-answer g c = λ d st.
    let m = g.M.Sequenced.spec in
    let v = c.self.inside.state in
    let fresh : c.self.inside.stale ≡ false = search rules in
    let here : RefinesCore m g.M.Sequenced.refines (record { state = v; stale = c.self.inside.stale }) d = subst (λ (n : NodeView g.row.M.Denot g.row.M-Msg.Denot). RefinesCore m g.M.Sequenced.refines n d) (sym c.self.view_is) st in
    let there = subst (λ (s : Bool). RefinesCore m g.M.Sequenced.refines (record { state = v; stale = s }) d) fresh here in
    let answer = rw c.in-Ok-Ok.field-0-is at c.in-Ok-Ok.ensures.answer in
    let taken : IsHeldStepOf m g.M.Sequenced.refines (IsOfNodes v.setup.n c.args.event) v (λ F R me e. step F R m me e c.args.event) c.turn.new.self (Ok c.in-Ok-Ok.outcome) = rw (← c.self-inside.view_is) answer in
    let kept : Outcome → Outcome = λ z. record z { entered = None } in
    let is : c.replayed.result ≡ kept c.in-Ok-Ok.outcome = c.replayed.ensures ∙ ap kept c.in-Ok-Ok.outcome-is in
    let turned = answer-replayed m g.M.Sequenced.refines (IsOfNodes v.setup.n c.args.event) d (step (formats_of v.setup m) (rules_of v.setup) m v.me.0 d c.args.event) (record { state = c.turn.new.self; stale = false }) c.in-Ok-Ok.outcome c.replayed.result is
    (answer-taken m g.M.Sequenced.refines v c.turn.new.self false c.args.event c.in-Ok-Ok.outcome taken d there) in
    subst (λ (z : StateView g.row.M.Denot g.row.M-Msg.Denot). IsTurn m g.M.Sequenced.refines (IsOfNodes c.args.self.now.state.setup.n c.args.event) (step (formats_of c.args.self.now.state.setup m) (rules_of c.args.self.now.state.setup) m c.args.self.now.state.me.0 d c.args.event) (record { state = z; stale = false }) c.replayed.result)
    (sym (ap (λ z. z.state) c.self-inside-2.view_is))
    (subst (λ (n : NodeView g.row.M.Denot g.row.M-Msg.Denot). IsTurn m g.M.Sequenced.refines (IsOfNodes n.state.setup.n c.args.event) (step (formats_of n.state.setup m) (rules_of n.state.setup) m n.state.me.0 d c.args.event) (record { state = c.turn.new.self; stale = false }) c.replayed.result)
    c.self.view_is turned)

pub turn-requires : goal.turn-requires
turn-requires g c =
    let m = g.M.Sequenced.spec in
    let v = c.self.inside.state in
    let fresh : c.self.inside.stale ≡ false = search rules in
    subst (λ (z : StateView g.row.M.Denot g.row.M-Msg.Denot). RefinesSome m g.M.Sequenced.refines z) (sym (ap (λ z. z.state) c.self-inside.view_is))
    (refines-some m g.M.Sequenced.refines (record { state = v; stale = c.self.inside.stale }) c.self.invariant fresh)
