use Rattle.std.proofs.Common.{◌∙◌, sym, ap, subst}
use Rattle.iss_node.proofs.Steps.QueriesAgree.{unfilled-of}
use Rattle.iss_node.specs.Internal.Shape.{IsNodeState}
use Rattle.iss_node.specs.State.{StateView}
use Rattle.iss_node.proofs.state.NodeState.is_unfilled.Goals as goal

pub returns-in-Some : goal.returns-in-Some
returns-in-Some g c = λ past tied.
    let m = g.M.Sequenced.spec in
    let v = c.args.self.now in
    let shape : IsNodeState m v = subst (λ (z : StateView g.row.M.Denot g.row.M-Msg.Denot). IsNodeState m z) c.self.view_is c.self.invariant in
    unfilled-of m g.M.Sequenced.refines v shape past tied c.args.leader.0 c.in-Some.segment.now (sym c.in-Some.ensures.led) c.as_slice.result.now (c.as_slice.ensures ∙ ap (λ p. p.slots) c.params.ensures.same) c.is_any_empty.result c.self.inside.log (ap (λ (z : StateView g.row.M.Denot g.row.M-Msg.Denot). z.log) c.self.view_is) c.is_any_empty.ensures
