-- Whose trees a key has: its own, or ones shared with others.
use Rattle.iss_keys.specs.Levels.{KeySeed}
use Rattle.iss_keys.specs.declared.held.Held.{Held}
use Rattle.iss_keys.specs.declared.held.Held.TheVariants.{Own, Shared}

abbrev pub seed_in : Held → KeySeed
seed_in (Own trees) = trees
seed_in (Shared trees) = trees.value
