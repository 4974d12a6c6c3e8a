use Rattle.std.proofs.Common.{rules, ◌≡◌, ◌∙◌, false, subst, sym, true≢false}
use Rattle.iss_rules.specs.Concrete.{rules_of}
use Rattle.iss_model.specs.Views.{is_castable_now}
use Rattle.iss_request.specs.declared.ids.NodeId.{NodeId}
use Rattle.iss_request.specs.declared.setups.Setup.{Setup}
use Rattle.iss_keep.proofs.kept.Kept.castable.Goals as goal

pub returns-then-not-self : goal.returns-then-not-self
returns-then-not-self g c =
    let m = g.M.Sequenced.spec in
    let fresh : c.self.inside.stale ≡ false = search rules in
    rw (← c.self.view_is) (record {
      is = λ d for.
          subst (λ (i : NodeId). c.castable.result ≡ is_castable_now (rules_of c.self.inside.setup) m i.0 d) c.self.invariant.number
          (subst (λ (s : Setup). c.castable.result ≡ is_castable_now (rules_of s) m c.self.inside.node.state.me.0 d) c.self.invariant.cluster (c.castable.ensures d for.node));
      stale = λ stale. absurd (true≢false (sym stale ∙ fresh));
    })
