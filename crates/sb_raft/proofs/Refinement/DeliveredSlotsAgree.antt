-- A step delivers the slots that the newly committed entries fill.
use Rattle.std.proofs.Common.{◌≡◌, ℕ, suc, ◌<◌, ◌==◌, Bool, true, false, if◌then◌else◌, List, [], ◌∷◌, ◌++◌, length, drop, get_or, refl, sym, ap, ◌∙◌, Some, None}
use Rattle.std.proofs.Math.Seq.{drop-cons}
use Rattle.iss_base.specs.Lists.{In}
use Rattle.iss_request.specs.Slots.{AreAscending}
use Rattle.iss_request.specs.declared.ids.Slot.{Slot}
use Rattle.iss_request.specs.declared.requests.Value.{Value}
use Rattle.iss_sb.specs.Paired.{paired, value_with}
use Rattle.iss_sb.proofs.Paired.{pair-value, paired-none, paired-slot, value-pair}
use Rattle.iss_sb.proofs.Slots.{another, drop-slot}

-- ---- Slots paired with values

pub paired-both : (ss : List Slot) (vs ws : List Value) → paired ss (vs ++ ws) ≡ paired ss vs ++ paired (drop (length vs) ss) ws
paired-both [] [] ws = refl
paired-both [] (v ∷ vs) ws = refl
paired-both (s ∷ ss) [] ws = refl
paired-both (s ∷ ss) (v ∷ vs) ws = ap (λ (z : List (Slot × Value)). (s, v) ∷ z) (paired-both ss vs ws)

-- one more value after these
pub paired-at : (ss : List Slot) (place : ℕ) (s : Slot) (v : Value) → place < length ss → s ≡ get_or ss place s → paired (drop place ss) (v ∷ []) ≡ (s, v) ∷ []
paired-at ss place s v lt is =
    ap (λ (z : List Slot). paired z (v ∷ [])) (drop-cons ss place s lt) ∙ ap (λ (z : List (Slot × Value)). (get_or ss place s, v) ∷ z) (paired-none (drop (suc place) ss))
    ∙ ap (λ (z : Slot). (z, v) ∷ []) (sym is)

-- ---- After the earlier values

-- the slot has a value now, and had none
pub fresh-decided : (low : ℕ) (s : Slot) (x : Value) (ss : List Slot) (vs ws : List Value) → AreAscending low ss → In {A = Slot × Value} (s, x) (paired (drop (length vs) ss) ws) →
    (value_with s.0 ss (vs ++ ws) ≡ Some x) × (value_with s.0 ss vs ≡ None)
fresh-decided low s x [] [] ws a h = absurd h
fresh-decided low s x [] (v ∷ vs) ws a h = absurd h
fresh-decided low s x (t ∷ ss) [] ws a h = (pair-value low s x (t ∷ ss) ws a h, refl)
fresh-decided low s x (t ∷ ss) (v ∷ vs) ws a h =
    let other = another low t s ss a (drop-slot s (length vs) ss (paired-slot s x (drop (length vs) ss) ws h)) in
    let r = fresh-decided (suc t.0) s x ss vs ws a.1 h in
    (rw other r.0, rw other r.1)

pub decided-fresh : (s : Slot) (x : Value) (ss : List Slot) (vs ws : List Value) → value_with s.0 ss (vs ++ ws) ≡ Some x → value_with s.0 ss vs ≡ None → In {A = Slot × Value} (s, x) (paired (drop (length vs) ss) ws)
decided-fresh s x [] vs ws h n = absurd cc
decided-fresh s x (t ∷ ss) [] ws h n = value-pair s x (t ∷ ss) ws h
decided-fresh s x (t ∷ ss) (v ∷ vs) ws h n = go (t.0 == s.0) h n (decided-fresh s x ss vs ws)
  where
    go : (b : Bool) → (if b then Some v else value_with s.0 ss (vs ++ ws)) ≡ Some x → (if b then Some v else value_with s.0 ss vs) ≡ None →
        (value_with s.0 ss (vs ++ ws) ≡ Some x → value_with s.0 ss vs ≡ None → In {A = Slot × Value} (s, x) (paired (drop (length vs) ss) ws)) → In {A = Slot × Value} (s, x) (paired (drop (length vs) ss) ws)
    go true h n more = absurd cc
    go false h n more = more h n
