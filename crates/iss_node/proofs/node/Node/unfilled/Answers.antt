use Rattle.std.proofs.Common.{◌≡◌, ◌∙◌, ◌+◌, map, refl, sym, subst}
use Rattle.iss_rules.specs.Concrete.{rules_of}
use Rattle.iss_model.specs.Views.{is_unfilled, unfilled}
use Rattle.iss_node.proofs.Steps.ReportsAgree.{unfilled-more, unfilled-same}
use Rattle.iss_node.specs.State.{NodeView, RefinesPast}
use Rattle.iss_node.proofs.node.Node.unfilled.Goals as goal
use Rattle.iss_node.proofs.node.Node.unfilled.Goals.{then-is_unfilled+in_ok-push, else-is_unfilled}

pub loop-node-preserved : goal.loop-node-preserved
loop-node-preserved g c = λ d st.
    let m = g.M.Sequenced.spec in
    let v = c.args.self.now.state in
    let tied = subst (λ (z : NodeView g.row.M.Denot g.row.M-Msg.Denot). RefinesPast m g.M.Sequenced.refines z.state d.past) (sym c.self.view_is) st.held.state.tied in
    let asked = subst (λ (z : NodeView g.row.M.Denot g.row.M-Msg.Denot). c.is_unfilled.result ≡ is_unfilled (rules_of z.state.setup) m z.state.me.0 d.past c.loop-node.node) c.self.view_is (c.is_unfilled.ensures d.past tied) in
    elim c.if-is_unfilled.branch [
      | then-is_unfilled+in_ok-push w ↦ unfilled-more (rules_of v.setup) m v.me.0 d.past c.loop-node.node c.loop-node.leaders (c.loop-node.invariant d st) _ c.if-is_unfilled.leaders refl (w.leaders-is ∙ w.in_ok-push.ensures.ok) (sym asked ∙ w.if-is_unfilled.true)
      | else-is_unfilled w ↦ subst (λ xs. map (λ x. x.0) xs ≡ unfilled (rules_of v.setup) m (c.loop-node.node + 1) v.me.0 d.past) (sym w.leaders-is) (unfilled-same (rules_of v.setup) m v.me.0 d.past c.loop-node.node c.loop-node.leaders (c.loop-node.invariant d st) (sym asked ∙ w.if-is_unfilled.false))
    ]
