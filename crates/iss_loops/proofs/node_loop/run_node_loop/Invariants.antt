use Rattle.std.proofs.Common.{true}
use Rattle.iss_loops.proofs.PartLemmas.{Done}
use Rattle.iss_loops.specs.NodeLoop.{turns}
use Rattle.iss_loops.specs.NodeSteps.{seen}
use Rattle.iss_loops.proofs.node_loop.run_node_loop.Given as goal

abbrev pub invariant-loop : goal.invariant-loop
invariant-loop g l =
    Done l.counter (λ B. turns B l.frames l.patience l.counter)
    (seen g.N.JournaledNode.has g.N.JournaledNode.leaves g.N.JournaledNode.nodes g.N.JournaledNode.place g.N.JournaledNode.faults g.L.Links.ends g.L.Links.faults l.fn.node l.fn.links (record { count = 0; idle = true; idle_turns = 0 }))
    (seen g.N.JournaledNode.has g.N.JournaledNode.leaves g.N.JournaledNode.nodes g.N.JournaledNode.place g.N.JournaledNode.faults g.L.Links.ends g.L.Links.faults l.node l.links l.progress)
