-- Lists and sums over the numbers below a bound.
use Rattle.std.specs.Prelude.{ℕ, zero, suc, ◌+◌, List, [], ◌∷◌, ◌++◌}

-- the concatenation of f 0, .., f (n - 1)
unfoldable pub join_below : (ℕ → List ℕ) → ℕ → List ℕ
join_below f zero = []
join_below f (suc n) = join_below f n ++ f n

-- f 0 + .. + f (n - 1)
unfoldable pub sum_below : (ℕ → ℕ) → ℕ → ℕ
sum_below f zero = 0
sum_below f (suc n) = sum_below f n + f n

-- the list of f 0, .., f (n - 1)
unfoldable pub listed : {X : Type 0} → (ℕ → X) → ℕ → List X
listed f zero = []
listed f (suc n) = listed f n ++ f n ∷ []
