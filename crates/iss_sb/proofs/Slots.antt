-- Slots of a segment.
use Rattle.std.proofs.Common.{◌≡◌, ◌<◌, ◌≤◌, ℕ, zero, suc, Bool, true, false, ◌||◌, ◌==◌, List, [], ◌∷◌, length, drop, Option, Some, None, refl, sym, ap, subst, inl, inr, true≢false, arith}
use Rattle.iss_base.specs.Lists.{In, nth}
use Rattle.iss_base.proofs.Lists.{eqb-other, is-eq, nth-in, some-injective}
use Rattle.iss_request.specs.Slots.{AreAscending}
use Rattle.iss_request.specs.declared.ids.NodeId.{NodeId}
use Rattle.iss_request.specs.declared.ids.Slot.{Slot}
use Rattle.iss_sb.specs.Calls.{AreBelow, has_slot, is_slot}

-- slots and nodes are their numbers
pub slot-is : (a b : Slot) → a.0 ≡ b.0 → a ≡ b
slot-is a b h = ap (λ (n : ℕ). let s : Slot = record { 0 = n } in s) h

pub node-is : (a b : NodeId) → a.0 ≡ b.0 → a ≡ b
node-is a b h = ap (λ (n : ℕ). let s : NodeId = record { 0 = n } in s) h

-- a slot whose number is found is in the list
pub has_slot-In : (s : Slot) (slots : List Slot) → has_slot s.0 slots ≡ true → In s slots
has_slot-In s [] h = absurd (true≢false (sym h))
has_slot-In s (t ∷ slots) h = go (t.0 == s.0) refl (has_slot-In s slots) h
  where
    go : (b : Bool) → (t.0 == s.0) ≡ b → (has_slot s.0 slots ≡ true → In s slots) → (b || has_slot s.0 slots) ≡ true → In s (t ∷ slots)
    go true q more k = inl (slot-is s t (sym (is-eq t.0 s.0 q)))
    go false q more k = inr (more k)

pub below-In : (bound : ℕ) (s : Slot) (slots : List Slot) → AreBelow bound slots → In s slots → s.0 < bound
below-In bound s [] low h = absurd h
below-In bound s (t ∷ slots) low (inl e) = subst (λ (z : Slot). z.0 < bound) (sym e) low.0
below-In bound s (t ∷ slots) low (inr h) = below-In bound s slots low.1 h

-- ---- a slot at a place of the segment

pub slot-some : (s : Slot) (o : Option Slot) → is_slot s.0 o ≡ true → o ≡ Some s
slot-some s None h = absurd (true≢false (sym h))
slot-some s (Some t) h = ap (λ (z : Slot). let o : Option Slot = Some z in o) (slot-is t s (is-eq t.0 s.0 h))

pub place-In : (s : Slot) (slots : List Slot) (k : ℕ) → is_slot s.0 (nth slots k) ≡ true → In s slots
place-In s [] k h = absurd (true≢false (sym h))
place-In s (t ∷ slots) zero h = inl (slot-is s t (sym (is-eq t.0 s.0 h)))
place-In s (t ∷ slots) (suc k) h = inr (place-In s slots k h)

pub place-below : (s : ℕ) (slots : List Slot) (k : ℕ) → is_slot s (nth slots k) ≡ true → k < length slots
place-below s [] k h = absurd (true≢false (sym h))
place-below s (t ∷ slots) zero h = omega arith
place-below s (t ∷ slots) (suc k) h = let r = place-below s slots k h in omega (arith, r)

-- ---- slots that ascend

pub ascending-above : (low : ℕ) (s : Slot) (ss : List Slot) → AreAscending low ss → In s ss → low ≤ s.0
ascending-above low s [] a h = absurd h
ascending-above low s (t ∷ ss) a (inl e) = let q = ap (λ (z : Slot). z.0) e in let l = a.0 in omega (arith, q, l)
ascending-above low s (t ∷ ss) a (inr h) = let r = ascending-above (suc t.0) s ss a.1 h in let l = a.0 in omega (arith, r, l)

-- a later slot differs from the first
pub another : (low : ℕ) (t s : Slot) (ss : List Slot) → AreAscending low (t ∷ ss) → In s ss → (t.0 == s.0) ≡ false
another low t s ss a h = let r = ascending-above (suc t.0) s ss a.1 h in eqb-other t.0 s.0 (λ e. omega (arith, r, e))

same-slot : (t s : Slot) → Some t ≡ Some s → t.0 ≡ s.0
same-slot t s e = ap (λ (z : Slot). z.0) (some-injective t s e)

-- so a slot has one place
pub one-place : (low : ℕ) (ss : List Slot) (m n : ℕ) (s : Slot) → AreAscending low ss → nth ss m ≡ Some s → nth ss n ≡ Some s → m ≡ n
one-place low [] m n s a e f = absurd cc
one-place low (t ∷ ss) zero zero s a e f = refl
one-place low (t ∷ ss) zero (suc n) s a e f = absurd (omega (arith, same-slot t s e, ascending-above (suc t.0) s ss a.1 (nth-in ss n s f)))
one-place low (t ∷ ss) (suc m) zero s a e f = absurd (omega (arith, same-slot t s f, ascending-above (suc t.0) s ss a.1 (nth-in ss m s e)))
one-place low (t ∷ ss) (suc m) (suc n) s a e f = ap suc (one-place (suc t.0) ss m n s a.1 e f)

pub drop-slot : (s : Slot) (k : ℕ) (ss : List Slot) → In s (drop k ss) → In s ss
drop-slot s zero ss h = h
drop-slot s (suc k) [] h = absurd h
drop-slot s (suc k) (t ∷ ss) h = inr (drop-slot s k ss h)
