use Rattle.iss_world.proofs.WorldLemmas.{node-left}
use Rattle.iss_world.proofs.world.World.node.Goals as goal

pub returns-clause-at : goal.returns-clause-at
returns-clause-at g c = rw (← c.self.view_is) c.node.ensures.at

pub returns-clause-refines : goal.returns-clause-refines
returns-clause-refines g c = rw (← c.self.view_is) (λ w k. k.simulation.cores c.args.core c.node.result.now c.node.ensures.at)

pub returns-clause-left : goal.returns-clause-left
returns-clause-left g c =
    rw (← c.self.view_is)
    (λ p k. node-left g.M.Sequenced.spec g.M.Sequenced.refines (record { simulation = c.self.inside.simulation; ended = c.self.inside.ended; stale = c.self.inside.stale }) p k
    c.args.core c.node.result.now c.node.ensures.at)
