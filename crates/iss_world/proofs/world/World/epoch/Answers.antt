use Rattle.std.proofs.Common.{◌∙◌}
use Rattle.iss_world.proofs.WorldLemmas.{shown-at}
use Rattle.iss_world.proofs.world.World.epoch.Goals as goal

pub returns : goal.returns
returns g c =
    rw (← c.self.view_is)
    (λ p k. c.epoch.ensures.shown
    ∙ (c.node.ensures.shown p.state (shown-at g.M.Sequenced.spec g.M.Sequenced.refines (record { simulation = c.self.inside.simulation; ended = c.self.inside.ended; stale = c.self.inside.stale }) p k)).epoch)
