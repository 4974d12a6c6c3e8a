use Rattle.iss_composition.proofs.Checkpoints.{composition-whole}
use Rattle.iss_composition.proofs.Reached.{composition}
use Rattle.iss_composition.proofs.theorems.composition.Goals as goal

pub returns : goal.returns
returns g c = record {
  part = λ s S R sound w exact sep r. composition s S R _ c.laws.ensures.safe c.laws.ensures.lawful sound w exact sep r;
  whole = λ s R sound w sep r. composition-whole s R _ c.laws.ensures.safe c.laws.ensures.lawful sound w sep r;
}
