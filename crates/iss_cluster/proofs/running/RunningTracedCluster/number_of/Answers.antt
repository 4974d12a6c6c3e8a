use Rattle.std.proofs.Common.{subst, ◌≡◌, false}
use Rattle.iss_cluster.specs.Clusters.{behavior_of}
use Rattle.iss_cluster.specs.Internal.Running.{RunningState}
use Rattle.iss_loops.specs.Loop.{number_from}
use Rattle.iss_cluster.proofs.RunningLemmas.{shows-number}
use Rattle.iss_cluster.proofs.running.RunningTracedCluster.number_of.Goals as goal

pub returns : goal.returns
returns g c =
    let m = g.M.Sequenced.spec in
    subst (λ (r : RunningState _ _). r.stale ≡ false → c.find.result ≡ number_from 0 c.args.core c.args.packet.now ((behavior_of r.trace.setup m).packets r.trace.events)) c.self.view_is
    (λ fresh. shows-number m g.M.Sequenced.refines _ c.self.invariant fresh
    c.args.core c.args.packet.now c.packets.result.now c.find.result c.packets.ensures.refines c.find.ensures)
