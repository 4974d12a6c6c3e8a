use Rattle.std.proofs.Common.{◌∙◌, ap, List, reverse, sym}
use Rattle.iss_request.specs.declared.requests.Value.{Value}
use Rattle.iss_world.proofs.world.World.entries.Goals as goal

pub returns : goal.returns
returns g c = λ p k. c.log.ensures p k ∙ ap (λ (values : List Value). reverse values) (sym c.entries.ensures)
