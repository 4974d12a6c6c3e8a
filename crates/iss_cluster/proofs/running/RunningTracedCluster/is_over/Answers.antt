use Rattle.std.proofs.Common.{rules, ◌≡◌, ◌∙◌, true, false}
use Rattle.iss_cluster.proofs.RunningLemmas.{shows-over, stale-over}
use Rattle.iss_cluster.proofs.running.RunningTracedCluster.is_over.Goals as goal

pub returns-then-self : goal.returns-then-self
returns-then-self g c =
    let stale : c.self.inside.stale ≡ true = search rules in
    stale ∙ stale-over g.M.Sequenced.spec g.M.Sequenced.refines _ _ c.self.view_is stale

pub returns-else-self : goal.returns-else-self
returns-else-self g c =
    let fresh : c.self.inside.stale ≡ false = search rules in
    rw (← c.self.view_is)
    (shows-over g.M.Sequenced.spec g.M.Sequenced.refines _ c.self.invariant fresh c.is_some.result c.is_some.ensures)
