use Rattle.std.proofs.Common.{subst, ◌≡◌, false}
use Rattle.iss_cluster.specs.Clusters.{behavior_of}
use Rattle.iss_cluster.specs.Internal.Running.{RunningState}
use Rattle.iss_cluster.proofs.RunningLemmas.{shows-ends, shows-packets}
use Rattle.iss_cluster.proofs.running.RunningTracedCluster.packets.Goals as goal

pub returns-clause-sent : goal.returns-clause-sent
returns-clause-sent g c =
    let m = g.M.Sequenced.spec in
    subst (λ (r : RunningState _ _). r.stale ≡ false → c.packets.result.now ≡ (behavior_of r.trace.setup m).packets r.trace.events) c.self.view_is
    (λ fresh. shows-packets m g.M.Sequenced.refines _ c.self.invariant fresh c.packets.result.now c.packets.ensures.refines)

pub returns-clause-ends : goal.returns-clause-ends
returns-clause-ends g c =
    shows-ends g.M.Sequenced.spec g.M.Sequenced.refines _ c.self.invariant c.packets.result.now c.packets.ensures.between
