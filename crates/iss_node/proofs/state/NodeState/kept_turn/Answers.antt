use Rattle.std.specs.Prelude.{Ok}
use Rattle.iss_model.specs.Node.{step}
use Rattle.iss_node.proofs.Steps.EntriesAreKept.{kept-taken}
use Rattle.iss_node.specs.Steps.{IsHeldStepOf, IsOfNodes}
use Rattle.iss_node.proofs.state.NodeState.kept_turn.Goals as goal

pub returns-in_ok-keep_entered-in-Ok-clause-answer : goal.returns-in_ok-keep_entered-in-Ok-clause-answer
returns-in_ok-keep_entered-in-Ok-clause-answer g c =
    let m = g.M.Sequenced.spec in
    let v = c.args.self.now in
    let w = c.turn.new.self in
    let new = c.keep_entered.new.self in
    let o = c.in-Ok.outcome in
    let handed = c.in_ok-keep_entered-in-Ok in
    let taken : IsHeldStepOf m g.M.Sequenced.refines (IsOfNodes v.setup.n c.args.event) v (λ F R me d. step F R m me d c.args.event) w (Ok o) =
    rw c.in-Ok.is at c.in_ok-outcome.ensures.answer in
    kept-taken m g.M.Sequenced.refines v w new c.in_ok-outcome.ensures.same handed.ensures.rest c.args.event o handed.field-0 handed.ensures.kept handed.ensures.noted taken
