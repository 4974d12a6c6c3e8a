use Rattle.std.proofs.Common.{take}
use Rattle.iss_loops.proofs.PartLemmas.{Done}
use Rattle.iss_loops.specs.NodeLoop.{times_out}
use Rattle.iss_loops.specs.NodeSteps.{seen}
use Rattle.iss_loops.proofs.node_loop.wake.Given as goal

abbrev pub invariant-loop-leader : goal.invariant-loop-leader
invariant-loop-leader g l =
    Done 0 (λ B. times_out B (take l.leader-index l.leaders))
    (seen g.N.JournaledNode.has g.N.JournaledNode.leaves g.N.JournaledNode.nodes g.N.JournaledNode.place g.N.JournaledNode.faults g.L.Links.ends g.L.Links.faults l.fn.node l.fn.links l.fn.progress)
    (seen g.N.JournaledNode.has g.N.JournaledNode.leaves g.N.JournaledNode.nodes g.N.JournaledNode.place g.N.JournaledNode.faults g.L.Links.ends g.L.Links.faults l.node l.links l.progress)
