use Rattle.iss_cluster.proofs.RunningLemmas.{starts}
use Rattle.iss_cluster.proofs.running.Running.start.Goals as goal

pub invariant_of-result : goal.invariant_of-result
invariant_of-result g c =
    starts g.M.Sequenced.spec g.M.Sequenced.refines c.in_ok-world.world c.args.setup c.in_ok-trace.trace c.new-2.result c.new-3.result _ c.requires c.in_ok-world.ensures.begun c.in_ok-world.ensures.same
    c.in_ok-trace.ensures c.new-2.ensures c.new-3.ensures
