use Rattle.std.proofs.Common.{sym, subst, ◌≡◌, ◌<◌}
use Rattle.iss_cluster.specs.Clusters.{behavior_of}
use Rattle.iss_cluster.specs.Internal.Running.{RunningState}
use Rattle.iss_cluster.proofs.RunningLemmas.{core-is, goes-yet, shows-castable}
use Rattle.iss_cluster.proofs.running.RunningTracedCluster.castable.Goals as goal

pub castable-requires : goal.castable-requires
castable-requires g c =
    let yet = goes-yet g.M.Sequenced.spec g.M.Sequenced.refines _ _ c.self.view_is c.requires.going in
    core-is g.M.Sequenced.spec g.M.Sequenced.refines _ c.self.invariant yet.0 c.args.core
    (subst (λ (r : RunningState _ _). c.args.core < r.trace.setup.n) (sym c.self.view_is) c.requires.core)

pub returns : goal.returns
returns g c =
    let m = g.M.Sequenced.spec in
    let yet = goes-yet g.M.Sequenced.spec g.M.Sequenced.refines _ _ c.self.view_is c.requires.going in
    subst (λ (r : RunningState _ _). c.castable.result ≡ (behavior_of r.trace.setup m).castable r.trace.events c.args.core) c.self.view_is
    (shows-castable m g.M.Sequenced.refines _ c.self.invariant yet.0
    yet.1 c.args.core c.castable.result c.castable.ensures)
