-- Slots with values, one pair after another: each slot has its value, slots ascend, and are of the segment.
use Rattle.std.proofs.Common.{◌≡◌, ℕ, zero, suc, ◌≤◌, ◌==◌, Bool, true, false, if◌then◌else◌, List, [], ◌∷◌, drop, Some, refl, sym, subst, ap, inl, inr, arith}
use Rattle.iss_base.specs.Lists.{In}
use Rattle.iss_base.proofs.Lists.{eqb-same, is-eq}
use Rattle.iss_request.specs.Slots.{AreAscending}
use Rattle.iss_request.specs.declared.ids.Slot.{Slot}
use Rattle.iss_request.specs.declared.requests.Value.{Value}
use Rattle.iss_sb.specs.Calls.{AllIn, slots_of}
use Rattle.iss_sb.specs.Paired.{paired, value_with}
use Rattle.iss_sb.proofs.Slots.{another, drop-slot, slot-is}

pub paired-none : (ss : List Slot) → paired ss [] ≡ []
paired-none [] = refl
paired-none (s ∷ ss) = refl

-- ---- a pair, and the value with its slot

pub paired-slot : (s : Slot) (x : Value) (ss : List Slot) (vs : List Value) → In {A = Slot × Value} (s, x) (paired ss vs) → In s ss
paired-slot s x [] vs h = absurd h
paired-slot s x (t ∷ ss) [] h = absurd h
paired-slot s x (t ∷ ss) (v ∷ vs) (inl e) = inl (ap (λ (z : Slot × Value). z.0) e)
paired-slot s x (t ∷ ss) (v ∷ vs) (inr h) = inr (paired-slot s x ss vs h)

pub pair-value : (low : ℕ) (s : Slot) (x : Value) (ss : List Slot) (vs : List Value) → AreAscending low ss → In {A = Slot × Value} (s, x) (paired ss vs) → value_with s.0 ss vs ≡ Some x
pair-value low s x [] vs a h = absurd h
pair-value low s x (t ∷ ss) [] a h = absurd h
pair-value low s x (t ∷ ss) (v ∷ vs) a (inl e) =
    let here : (t.0 == s.0) ≡ true = subst (λ (z : Slot). (t.0 == z.0) ≡ true) (sym (ap (λ (z : Slot × Value). z.0) e)) (eqb-same t.0) in
    let is : x ≡ v = ap (λ (z : Slot × Value). z.1) e in
    rw (here, is) refl
pair-value low s x (t ∷ ss) (v ∷ vs) a (inr h) =
    let other = another low t s ss a (paired-slot s x ss vs h) in
    rw other (pair-value (suc t.0) s x ss vs a.1 h)

pub value-pair : (s : Slot) (x : Value) (ss : List Slot) (vs : List Value) → value_with s.0 ss vs ≡ Some x → In {A = Slot × Value} (s, x) (paired ss vs)
value-pair s x [] vs h = absurd cc
value-pair s x (t ∷ ss) [] h = absurd cc
value-pair s x (t ∷ ss) (v ∷ vs) h = go (t.0 == s.0) refl h (value-pair s x ss vs)
  where
    go : (b : Bool) → (t.0 == s.0) ≡ b → (if b then Some v else value_with s.0 ss vs) ≡ Some x → (value_with s.0 ss vs ≡ Some x → In {A = Slot × Value} (s, x) (paired ss vs)) → In {A = Slot × Value} (s, x) ((t, v) ∷ paired ss vs)
    go true q k more =
        let slot : s ≡ t = sym (slot-is t s (is-eq t.0 s.0 q)) in
        let is : x ≡ v = sym cc in
        inl (λ i. (slot i, is i))
    go false q k more = inr (more k)

-- ---- they ascend, and are in the segment

lower : (a b : ℕ) (ss : List Slot) → a ≤ b → AreAscending b ss → AreAscending a ss
lower a b [] le h = tt
lower a b (s ∷ ss) le h = let l = h.0 in (omega (arith, l, le), h.1)

ascending-drop : (low k : ℕ) (ss : List Slot) → AreAscending low ss → AreAscending low (drop k ss)
ascending-drop low zero ss h = h
ascending-drop low (suc k) [] h = tt
ascending-drop low (suc k) (s ∷ ss) h = let l = h.0 in lower low (suc s.0) (drop k ss) (omega (arith, l)) (ascending-drop (suc s.0) k ss h.1)

paired-ascending : (low : ℕ) (ss : List Slot) (vs : List Value) → AreAscending low ss → AreAscending low (slots_of (paired ss vs))
paired-ascending low [] vs h = tt
paired-ascending low (s ∷ ss) [] h = tt
paired-ascending low (s ∷ ss) (v ∷ vs) h = (h.0, paired-ascending (suc s.0) ss vs h.1)

pub fresh-ascending : (low k : ℕ) (ss : List Slot) (ws : List Value) → AreAscending low ss → AreAscending low (slots_of (paired (drop k ss) ws))
fresh-ascending low k ss ws h = paired-ascending low (drop k ss) ws (ascending-drop low k ss h)

all-paired : (ss all : List Slot) (vs : List Value) → ((s : Slot) → In s ss → In s all) → AllIn (slots_of (paired ss vs)) all
all-paired [] all vs h = tt
all-paired (s ∷ ss) all [] h = tt
all-paired (s ∷ ss) all (v ∷ vs) h = (h s (inl refl), all-paired ss all vs (λ t i. h t (inr i)))

pub fresh-within : (k : ℕ) (ss : List Slot) (ws : List Value) → AllIn (slots_of (paired (drop k ss) ws)) ss
fresh-within k ss ws = all-paired (drop k ss) ss ws (λ s i. drop-slot s k ss i)
