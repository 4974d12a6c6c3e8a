use Rattle.std.proofs.Common.{◌≡◌, ℕ, subst}
use Rattle.iss_model.specs.Views.{is_castable_now}
use Rattle.iss_request.specs.declared.setups.Setup.{Setup}
use Rattle.iss_rules.specs.Concrete.{rules_of}
use Rattle.iss_world.proofs.OverLemmas.{at-working}
use Rattle.iss_world.proofs.world.World.castable.Goals as goal

pub returns : goal.returns
returns g c = λ w refined working.
    let m = g.M.Sequenced.spec in
    let s = c.args.self.now.simulation.setup in
    let me = c.node.result.now.me.0 in
    let core = w.held.net.cores c.args.core in
    let there = at-working m g.M.Sequenced.refines c.node.result.now core (w.disks c.args.core)
    (c.node.ensures.refines w refined) working in
    subst (λ (i : ℕ). c.castable.result ≡ is_castable_now (rules_of s) m i core) c.node.ensures.same.1
    (subst (λ (t : Setup). c.castable.result ≡ is_castable_now (rules_of t) m me core) c.node.ensures.same.0
    (c.castable.ensures.is core there))
