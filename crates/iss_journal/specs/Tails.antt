-- Entries of which each ends in shared bytes.
use Rattle.std.specs.Prelude.{ℕ, List, [], ◌∷◌, ◌++◌}

-- entries with their shared ends, in order
abbrev pub with_tails : List (List ℕ) → List (List ℕ) → List (List ℕ)
with_tails [] tails = []
with_tails (entry ∷ entries) [] = entry ∷ entries
with_tails (entry ∷ entries) (tail ∷ tails) = (entry ++ tail) ∷ with_tails entries tails
