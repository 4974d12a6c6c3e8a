use Rattle.std.proofs.Common.{sym, subst, ◌≡◌, false}
use Rattle.iss_cluster.specs.Clusters.{behavior_of}
use Rattle.iss_cluster.specs.Internal.Running.{RunningState}
use Rattle.iss_loops.specs.Traces.{IsNext}
use Rattle.iss_cluster.proofs.RunningLemmas.{gives-up, goes-further}
use Rattle.iss_cluster.proofs.running.RunningTracedCluster.event.Goals as goal

pub follow-requires-clause-cluster : goal.follow-requires-clause-cluster
follow-requires-clause-cluster g c = c.self.invariant.cluster

pub follow-requires-clause-next : goal.follow-requires-clause-next
follow-requires-clause-next g c =
    subst (λ (r : RunningState _ _). IsNext (behavior_of r.trace.setup g.M.Sequenced.spec) r.trace.events c.args.event) (sym c.self.view_is) c.requires.next

pub invariant_of-self : goal.invariant_of-self
invariant_of-self g c =
    gives-up g.M.Sequenced.spec g.M.Sequenced.refines _ c.follow.new.report.world c.follow.new.report.drops c.follow.new.report.ended c.follow.new.trace c.follow.new.index
    c.self.invariant c.follow.ensures.same.0 c.follow.ensures.same.1

pub invariant_of-self-2 : goal.invariant_of-self-2
invariant_of-self-2 g c =
    goes-further g.M.Sequenced.spec g.M.Sequenced.refines _ c.follow.new.report.world c.follow.new.report.drops c.follow.new.report.ended c.follow.new.trace c.follow.new.index
    c.self.invariant (subst (λ (r : RunningState _ _). r.stale ≡ false) (sym c.self.view_is) c.requires.fresh) c.follow.ensures.same.0 c.follow.ensures.same.1 c.in_ok-follow.ensures.run
