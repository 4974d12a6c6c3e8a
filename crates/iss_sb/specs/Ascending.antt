-- Rows of things whose numbers are strictly ascending, none below a first number.
use Rattle.std.specs.Prelude.{ℕ, zero, suc, ◌&&◌, Bool, true, List, [], ◌∷◌}
use Rattle.iss_request.specs.Parsing.{Parser, ◌>>=◌, done}

-- each passes the test, given the least number that it may have
abbrev pub all_ascend : {A : Type 0} → (ℕ → A → Bool) → (A → ℕ) → ℕ → List A → Bool
all_ascend fits number from [] = true
all_ascend fits number from (x ∷ xs) = fits from x && all_ascend fits number (suc (number x)) xs

-- n of them, with strictly ascending numbers
unfoldable pub ascending : {A : Type 0} → (ℕ → Parser A) → (A → ℕ) → ℕ → ℕ → Parser (List A)
ascending one number zero from = done []
ascending one number (suc n) from = do
  first ← one from
  others ← ascending one number n (suc (number first))
  done (first ∷ others)
