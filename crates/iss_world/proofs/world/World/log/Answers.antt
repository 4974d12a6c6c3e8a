use Rattle.std.proofs.Common.{◌∙◌, ap, reverse, sym}
use Rattle.iss_log.specs.LogState.{LogState}
use Rattle.iss_world.proofs.WorldLemmas.{shown-at}
use Rattle.iss_world.proofs.world.World.log.Goals as goal

pub returns : goal.returns
returns g c =
    rw (← c.self.view_is)
    (λ p k. (c.node.ensures.shown p.state (shown-at g.M.Sequenced.spec g.M.Sequenced.refines (record { simulation = c.self.inside.simulation; ended = c.self.inside.ended; stale = c.self.inside.stale }) p k)).log
    ∙ ap (λ (l : LogState). reverse l.entries) (sym c.log.ensures.shown))
