-- What is seen of a store: its keys with their values, in any order, each key once.
use Rattle.std.specs.Prelude.{ℕ, List, Option, map}
use Rattle.std.specs.Map.{lookup}
use Rattle.std.specs.Str.{bytes_eq}
use Rattle.std.specs.Global.{Vec}

-- what a key holds
abbrev pub held_in : List (List ℕ × List ℕ) → List ℕ → Option (List ℕ)
held_in store key = lookup (bytes_eq key) store

-- the entries of the map in the code
abbrev pub stored : List (Vec ℕ × List ℕ) → List (List ℕ × List ℕ)
stored entries = map (λ e. (e.0.items, e.1)) entries
