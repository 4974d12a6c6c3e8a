-- The string of a text, whether its bytes or a value are kept.
use Rattle.std.specs.Prelude.{ℕ, List}
use Rattle.iss_request.specs.Formats.{value_string}
use Rattle.iss_world.specs.declared.texts.Held.{Held}
use Rattle.iss_world.specs.declared.texts.Held.TheVariants.{Copy, Shared}

abbrev pub held_string : Held → List ℕ
held_string (Copy bytes) = bytes
held_string (Shared version value) = value_string version value
