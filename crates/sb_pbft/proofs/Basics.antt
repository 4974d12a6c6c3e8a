-- Small facts on options and tests.
use Rattle.std.proofs.Common.{◌≡◌, ◌∷◌, ℕ, Bool, true, false, cond, List, [], Option, Some, None, refl, sym, ap, inl, inr}
use Rattle.std.proofs.lemmas.Bool.{eq-eqb}
use Rattle.std.specs.Prelude.{◌==◌}
use Rattle.iss_base.specs.Lists.{In, first_of}
use Rattle.iss_base.proofs.Lists.{some-injective}
use Rattle.iss_base.proofs.Quorum.{or_right_true}
use Rattle.iss_request.specs.declared.ids.Slot.{Slot}
use Rattle.iss_sb.specs.Calls.{has_slot}
use Rattle.sb_pbft.specs.Rules.{when}

-- ---- options

pub record IsWhen {A : Type 0} (b : Bool) (x y : A) : Type 0 where
  pub test : b ≡ true
  pub is : x ≡ y

pub when-is : {A : Type 0} (b : Bool) (x y : A) → when b x ≡ Some y → IsWhen b x y
when-is true x y h = record { test = refl; is = some-injective x y h }
when-is false x y h = absurd (cc)

pub first-keeps : {A : Type 0} (a b : Option A) (x : A) → a ≡ Some x → first_of a b ≡ Some x
first-keeps (Some y) b x h = h
first-keeps None b x h = absurd (cc)

pub first-none : {A : Type 0} (a b : Option A) → a ≡ None → first_of a b ≡ b
first-none (Some y) b h = absurd (cc)
first-none None b h = refl

pub none-from : {A : Type 0} (a : Option A) → ((x : A) → a ≡ Some x → ⊥) → a ≡ None
none-from None h = refl
none-from (Some x) h = absurd (h x refl)

pub same-some : {A : Type 0} (o : Option A) (x y : A) → o ≡ Some x → o ≡ Some y → x ≡ y
same-some o x y h g = cc

-- ---- tests

pub is-same : (a b : ℕ) → a ≡ b → (a == b) ≡ true
is-same a b h = eq-eqb a b h

pub in-cond : {A : Type 0} (b : Bool) (x : A) (xs : List A) → In x (cond b xs []) → (b ≡ true) × In x xs
in-cond true x xs h = (refl, h)
in-cond false x xs h = absurd h

pub In-has : (s : Slot) (slots : List Slot) → In s slots → has_slot s.0 slots ≡ true
In-has s [] h = absurd h
In-has s (t ∷ ts) (inl e) = rw (is-same t.0 s.0 (ap (λ (z : Slot). z.0) (sym e))) refl
In-has s (t ∷ ts) (inr h) = or_right_true (t.0 == s.0) (has_slot s.0 ts) (In-has s ts h)
