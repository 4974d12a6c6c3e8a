use Rattle.iss_loops.proofs.PartLemmas.{does-as, does-then, idles, proposed}
use Rattle.iss_loops.specs.NodeLoop.{proposes, takes}
use Rattle.iss_loops.specs.NodeSteps.{seen}
use Rattle.iss_rules.specs.declared.events.NodeEvent.TheVariants.{Propose}
use Rattle.iss_loops.proofs.node_loop.propose.Goals as goal
use Rattle.std.proofs.Common.{false}

pub returns : goal.returns
returns g c =
    let here = seen g.N.JournaledNode.has g.N.JournaledNode.leaves g.N.JournaledNode.nodes g.N.JournaledNode.place g.N.JournaledNode.faults g.L.Links.ends g.L.Links.faults c.args.node.now c.args.links.now c.args.progress.now in
    does-as 0 (λ B w. takes B Propose (record w { idle = false })) (λ B. proposes B) _ _ c.take.result
    (proposed c.castable.result here (λ B events has. c.castable.ensures B events has) c.if-not-castable.false)
    (does-then 0 0 (λ B w. record w { idle = false }) (λ B. takes B Propose) _ _ _ c.take.result (idles false _) c.take.ensures)
