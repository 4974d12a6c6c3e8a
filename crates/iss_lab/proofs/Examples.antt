-- The first states of the number 1, and a schedule of two events.
use Rattle.std.proofs.Common.{◌≡◌, ◌∷◌, [], refl}
use Rattle.iss_schedule.specs.declared.schedules.Event.TheVariants.{Propose, Calm, Restart}
use Rattle.iss_lab.specs.Draws.{next}
use Rattle.iss_lab.specs.Generated.{generated}

first : next 1 ≡ 7806831264735756412
first = refl

second : next 7806831264735756412 ≡ 9396908728118811419
second = refl

third : next 9396908728118811419 ≡ 11960119808228829710
third = refl

fourth : next 11960119808228829710 ≡ 7062582979898595269
fourth = refl

two_events : (generated 1 2).events ≡ Propose 1 ∷ Restart 2 ∷ Calm 50 ∷ []
two_events = refl
