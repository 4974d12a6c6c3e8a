-- What holds of both branches of a test holds of the result; orderings and tests of lists.
use Rattle.std.proofs.Common.{◌≡◌, ℕ, Bool, true, false, cond, ◌==◌, ◌&&◌, ◌||◌, if◌then◌else◌, List, [], ◌∷◌, refl, sym, ◌∙◌, subst, true≢false, arith}
use Rattle.std.specs.Cmp.Lexicographic.{slice_cmp}
use Rattle.std.specs.Ordering.{is_eq, nat_cmp, ordering_then}
use Rattle.std.specs.declared.cmp.Ordering.{Ordering}
use Rattle.std.specs.declared.cmp.Ordering.TheVariants.{Less, Equal, Greater}
use Rattle.iss_base.specs.Lists.{same_bytes}
use Rattle.iss_base.proofs.Lists.{same_bytes-refl}

pub by-both : {A : Type 0} (P : A → Type 0) (t : Bool) (a b : A) → (t ≡ true → P a) → (t ≡ false → P b) → P (if t then a else b)
by-both P true a b h g = h refl
by-both P false a b h g = g refl

-- one more element of a set of elements
pub added : (t u v w : Bool) → t ≡ u → w ≡ cond t true v → w ≡ (u || v)
added true true v w p q = q
added false false v w p q = q
added true false v w p q = absurd cc
added false true v w p q = absurd cc

pub different : (x y : List ℕ) → same_bytes x y ≡ false → x ≡ y → ⊥
different x y h e = true≢false (sym (subst (λ (z : List ℕ). same_bytes x z ≡ true) e (same_bytes-refl x)) ∙ h)

-- ---- keys of a set or a map, as their order compares them

pub same_number : (a b : ℕ) → is_eq (nat_cmp a b) ≡ (a == b)
same_number a b = grind arith

pub both_equal : (a b : Ordering) → is_eq (ordering_then a b) ≡ (is_eq a && is_eq b)
both_equal Less b = refl
both_equal Equal b = refl
both_equal Greater b = refl

pub same_list : (a b : List ℕ) → is_eq (slice_cmp nat_cmp a b) ≡ same_bytes a b
same_list [] [] = refl
same_list [] (y ∷ ys) = refl
same_list (x ∷ xs) [] = refl
same_list (x ∷ xs) (y ∷ ys) = both_equal (nat_cmp x y) (slice_cmp nat_cmp xs ys) ∙ (let h = same_number x y in let t = same_list xs ys in rw (h, t) refl)
