use Rattle.iss_node.proofs.EpochEnd.InstancesStart.{AreBegun}
use Rattle.iss_node.proofs.starting.start_segments.Given as goal

abbrev pub invariant-loop-node : goal.invariant-loop-node
invariant-loop-node g l = AreBegun g.M.Sequenced.refines l.setup l.me l.epoch.0 l.layout l.node l.segments.items
