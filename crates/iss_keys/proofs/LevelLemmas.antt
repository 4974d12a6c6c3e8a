-- No leaf of any of a key's trees signs two statements, if no leaf of the key does.
use Rattle.std.proofs.Common.{◌≡◌, ℕ, suc, ◌/◌, ◌%◌, List, [], ◌∷◌, inl, inr, Some, sym, ap, ◌∙◌, arith}
use Rattle.std.specs.Prelude.{slice_get}
use Rattle.std.proofs.lemmas.Bool.{cases_lt, le-ltb, lt-ltb}
use Rattle.iss_base.specs.Lists.{In}
use Rattle.iss_base.proofs.Lists.{some-injective}
use Rattle.iss_keys.specs.Levels.{EachSignsOnce, Signing, by_bottom, by_top, signings}

same_statement : (row : List (List ℕ)) (p q : ℕ) (s t : List ℕ) → slice_get row p ≡ Some s → slice_get row q ≡ Some t →
    p ≡ q → s ≡ t
same_statement row p q s t at bt e = some-injective s t (sym at ∙ ap (slice_get row) e ∙ bt)

-- the leaf of a key follows from its bottom tree and the leaf there
same_leaf : (p q : ℕ) (s t : List ℕ) (x y : Signing) → x ≡ by_bottom p s → y ≡ by_bottom q t → x.tree ≡ y.tree →
    x.leaf ≡ y.leaf → p ≡ q
same_leaf p q s t x y is other tree leaf =
    let trees : suc (p / 1024) ≡ suc (q / 1024) =
    sym (ap (λ (z : Signing). z.tree) is) ∙ tree ∙ ap (λ (z : Signing). z.tree) other in
    let leaves : p % 1024 ≡ q % 1024 =
    sym (ap (λ (z : Signing). z.leaf) is) ∙ leaf ∙ ap (λ (z : Signing). z.leaf) other in
    omega (arith, trees, leaves)

-- a bottom tree is not the top tree
apart : (p b : ℕ) (s secret : List ℕ) (x y : Signing) → x ≡ by_bottom p s → y ≡ by_top secret b → x.tree ≡ y.tree → ⊥
apart p b s secret x y is other tree =
    let trees : suc (p / 1024) ≡ 0 =
    sym (ap (λ (z : Signing). z.tree) is) ∙ tree ∙ ap (λ (z : Signing). z.tree) other in
    omega (arith, trees)

-- what a leaf of the top tree signs follows from its number
same_root : (a b : ℕ) (secret : List ℕ) (x y : Signing) → x ≡ by_top secret a → y ≡ by_top secret b → x.leaf ≡ y.leaf →
    x.statement ≡ y.statement
same_root a b secret x y is other leaf =
    let leaves : a ≡ b = sym (ap (λ (z : Signing). z.leaf) is) ∙ leaf ∙ ap (λ (z : Signing). z.leaf) other in
    ap (λ (z : Signing). z.statement) is ∙ ap (λ n. (by_top secret n).statement) leaves
    ∙ sym (ap (λ (z : Signing). z.statement) other)

module _ (row : List (List ℕ)) (secret : List ℕ) (p q : ℕ) (s t : List ℕ) (x y : Signing)
    (at : slice_get row p ≡ Some s) (bt : slice_get row q ≡ Some t) (tree : x.tree ≡ y.tree) (leaf : x.leaf ≡ y.leaf) where
  by_two : In x (by_bottom p s ∷ by_top secret (p / 1024) ∷ []) → In y (by_bottom q t ∷ by_top secret (q / 1024) ∷ []) →
      x.statement ≡ y.statement
  by_two (inl is) (inl other) =
      ap (λ (z : Signing). z.statement) is
      ∙ same_statement row p q s t at bt (same_leaf p q s t x y is other tree leaf)
      ∙ sym (ap (λ (z : Signing). z.statement) other)
  by_two (inl is) (inr (inl other)) = absurd (apart p (q / 1024) s secret x y is other tree)
  by_two (inl is) (inr (inr none)) = absurd none
  by_two (inr (inl is)) (inl other) = absurd (apart q (p / 1024) t secret y x other is (sym tree))
  by_two (inr (inl is)) (inr (inl other)) = same_root (p / 1024) (q / 1024) secret x y is other leaf
  by_two (inr (inl is)) (inr (inr none)) = absurd none
  by_two (inr (inr none)) there = absurd none

  by_one : In x (record { tree = 0; leaf = p; statement = s } ∷ []) →
      In y (record { tree = 0; leaf = q; statement = t } ∷ []) → x.statement ≡ y.statement
  by_one (inl is) (inl other) =
      let leaves : p ≡ q = sym (ap (λ (z : Signing). z.leaf) is) ∙ leaf ∙ ap (λ (z : Signing). z.leaf) other in
      ap (λ (z : Signing). z.statement) is ∙ same_statement row p q s t at bt leaves
      ∙ sym (ap (λ (z : Signing). z.statement) other)
  by_one (inl is) (inr none) = absurd none
  by_one (inr none) there = absurd none

pub each_signs_once : (secret : List ℕ) (h : ℕ) (row : List (List ℕ)) → EachSignsOnce secret h row
unfolding signings
each_signs_once secret h row p q s t x y at bt mine other tree leaf = elim (cases_lt 12 h) [
  | inl two ↦
      by_two row secret p q s t x y at bt tree leaf (rw (lt-ltb 12 h two) at mine) (rw (lt-ltb 12 h two) at other)
  | inr one ↦
      by_one row secret p q s t x y at bt tree leaf (rw (le-ltb 12 h one) at mine) (rw (le-ltb 12 h one) at other)
]
