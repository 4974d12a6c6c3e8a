-- Lists of replicas: distinct ones, and those below a bound.
use Rattle.std.proofs.Common.{◌≡◌, ℕ, ◌<◌, true, not, List, [], ◌∷◌, refl, inl, inr, ◌⊎◌}
use Rattle.std.specs.Prelude.{◌==◌, nat_lt}
use Rattle.std.proofs.lemmas.Bool.{eqb-true, eq-eqb, false_from_ne_true, lt-ltb, not_from_false, or_cases, or_left}
use Rattle.iss_base.specs.Quorum.{all_below, distinct, mem}
use Rattle.iss_base.proofs.Lists.{both}
use Rattle.iss_base.proofs.Quorum.{or_right_true}

pub below-from : (n : ℕ) (xs : List ℕ) → ((j : ℕ) → mem j xs ≡ true → j < n) → all_below n xs ≡ true
below-from n [] h = refl
below-from n (x ∷ xs) h =
    both (nat_lt x n) (all_below n xs) (lt-ltb x n (h x (or_left (x == x) (mem x xs) (eq-eqb x x refl)))) (below-from n xs (λ j m. h j (or_right_true (j == x) (mem j xs) m)))

pub apart-cons : (x : ℕ) (xs : List ℕ) → (mem x xs ≡ true → ⊥) → distinct xs ≡ true → distinct (x ∷ xs) ≡ true
apart-cons x xs h d = both (not (mem x xs)) (distinct xs) (not_from_false (mem x xs) (false_from_ne_true (mem x xs) h)) d

pub mem-cases : (j x : ℕ) (xs : List ℕ) → mem j (x ∷ xs) ≡ true → (j ≡ x) ⊎ (mem j xs ≡ true)
mem-cases j x xs h = elim (or_cases (j == x) (mem j xs) h) [ inl e ↦ inl (eqb-true j x e) | inr e ↦ inr e ]
