-- Bytes as a list of numbers, whether they stand alone or are a part of shared memory.
use Rattle.std.specs.Prelude.{ℕ, List, take, drop}
use Rattle.iss_request.specs.declared.bytes.Held.{Held}
use Rattle.iss_request.specs.declared.bytes.Held.TheVariants.{Own, Part}

abbrev pub held_bytes : Held → List ℕ
held_bytes (Own all) = all.items
held_bytes (Part all from to) = drop from (take to all.value.items)
