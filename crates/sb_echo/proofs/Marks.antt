-- The state and tests of echo agree with the history that they represent.
use Rattle.std.proofs.Common.{◌≡◌, ◌≢◌, ℕ, zero, suc, Bool, true, false, ◌&&◌, ◌==◌, if◌then◌else◌, List, ◌∷◌, Option, Some, None, is_some, refl, sym, ap, ◌∙◌, subst, inl, inr, arith, true≢false}
use Rattle.iss_base.specs.Lists.{In, same_bytes}
use Rattle.iss_base.specs.Quorum.{count_below}
use Rattle.iss_base.proofs.Lists.{same_or_not}
use Rattle.iss_request.specs.Slots.{AreAscending}
use Rattle.iss_request.specs.declared.ids.NodeId.{NodeId}
use Rattle.iss_request.specs.declared.ids.Slot.{Slot}
use Rattle.iss_request.specs.declared.requests.Batch.{Batch}
use Rattle.iss_request.specs.declared.requests.Value.{Value}
use Rattle.iss_request.specs.declared.requests.Value.TheVariants.{Batch as Value_batch}
use Rattle.iss_sb.specs.declared.effects.Input.{Input}
use Rattle.iss_sb.specs.declared.effects.Input.TheVariants.{Receive}
use Rattle.iss_sb.specs.declared.effects.Params.{Params}
use Rattle.iss_sb.specs.Calls.{AllIn, Delivers, has_slot, slots_of}
use Rattle.iss_sb.specs.Evidence.{Item, and_then, delivered}
use Rattle.iss_sb.proofs.Slots.{slot-is}
use Rattle.iss_sb.proofs.Delivered.{Delivers-from, delivered-decided}
use Rattle.sb_echo.specs.declared.word.Word.{Word}
use Rattle.sb_echo.specs.declared.word.Word.TheVariants.{Echo as Echo_word}
use Rattle.sb_echo.specs.Echo.{decide, decided, digest_of, echo, has_echo, is_echo, is_echoed}
use Rattle.sb_echo.specs.Internal.Refines.{one_at, place_for}
use Rattle.sb_echo.proofs.Bytes.{is-same, same-is}
use Rattle.sb_echo.proofs.Facts.{decided-stays}

pub count-alike : (t u : ℕ → Bool) (n : ℕ) → ((k : ℕ) → t k ≡ u k) → count_below t n ≡ count_below u n
count-alike t u zero h = refl
count-alike t u (suc n) h = let a = h n in let b = count-alike t u n h in rw (a, b) refl

pub some-place : (p : Params) (o : Option Batch) (v : Option Value) → is_some (place_for p o v) ≡ is_some o
some-place p None v = refl
some-place p (Some b) None = refl
some-place p (Some b) (Some v) = refl

-- equal numbers pass the same tests
pub apart : (a s : ℕ) → (a == s) ≡ false → s ≢ a
apart a s h e = true≢false (sym (same-is a s (sym e)) ∙ h)

pub other : (a s : ℕ) → s ≢ a → (a == s) ≡ false
other a s ne = go (a == s) refl
  where
    go : (t : Bool) → (a == s) ≡ t → t ≡ false
    go true q = absurd (ne (sym (is-same a s q)))
    go false q = refl

-- ---- what is decided with one input more

-- the input is no echo at a slot of the segment
abbrev pub IsQuiet : Params → ℕ → Input Word → Type 0
IsQuiet p s i = has_slot s p.slots ≡ true → (d : List ℕ) (k : ℕ) → is_echo s d k i ≡ false

quiet-echo : (s : ℕ) (d : List ℕ) (k : ℕ) (x : Item Word) (xs : List (Item Word)) → is_echo s d k x.input ≡ false →
    has_echo s d k (x ∷ xs) ≡ has_echo s d k xs
quiet-echo s d k x xs h = rw h refl

pub decide-quiet : (p : Params) (s : ℕ) (x : Item Word) (xs : List (Item Word)) → IsQuiet p s x.input →
    (o : Option Batch) → decide p s (x ∷ xs) o ≡ decide p s xs o
decide-quiet p s x xs quiet None = refl
decide-quiet p s x xs quiet (Some b) = go (has_slot s p.slots) refl
  where
    go : (t : Bool) → has_slot s p.slots ≡ t → (if t && is_echoed p s (digest_of p b) (x ∷ xs) then Some (Value_batch b) else None) ≡ (if t && is_echoed p s (digest_of p b) xs then Some (Value_batch b) else None)
    go false q = refl
    go true q =
        let same = count-alike (λ k. has_echo s (digest_of p b) k (x ∷ xs)) (λ k. has_echo s (digest_of p b) k xs) p.setup.n (λ k. quiet-echo s (digest_of p b) k x xs (quiet q (digest_of p b) k)) in
        rw same refl

-- an echo does not count at another slot
pub echo-apart : (from : NodeId) (slot : Slot) (d sig : List ℕ) (s : ℕ) (e : List ℕ) (k : ℕ) → (slot.0 == s) ≡ false →
    is_echo s e k (Receive from (Echo_word slot d sig)) ≡ false
echo-apart from slot d sig s e k h = rw h (never (from.0 == k))
  where
    never : (b : Bool) → (b && (false && same_bytes d e)) ≡ false
    never true = refl
    never false = refl

pub delivered-is : (p : Params) (me : ℕ) (xs : List (Item Word)) (s : ℕ) → delivered echo p me xs s ≡ decided p me xs s
delivered-is p me = delivered-decided echo p me (λ s. refl) (decided-stays p me)

-- ---- what is delivered: at one slot, what was not decided before

abbrev pub newly : Option Value → Option Value → Option Value
newly None v = v
newly (Some x) v = None

newly-is : (a b : Option Value) (x : Value) → newly a b ≡ Some x → (a ≡ None) × (b ≡ Some x)
newly-is None b x h = (refl, h)
newly-is (Some y) b x h = absurd cc

one-rises : (slot : Slot) (v : Option Value) → AreAscending 0 (slots_of (one_at slot v))
one-rises slot None = tt
one-rises slot (Some x) = (omega arith, tt)

pub one-within : (slot : Slot) (v : Option Value) (slots : List Slot) → In slot slots →
    AllIn (slots_of (one_at slot v)) slots
one-within slot None slots h = tt
one-within slot (Some x) slots h = (h, tt)

pair-is : (s t : Slot) (x : Value) → s.0 ≡ t.0 → ◌≡◌ {A = Slot × Value} (s, x) (t, x)
pair-is s t x h = ap (λ (z : Slot). let q : Slot × Value = (z, x) in q) (slot-is s t h)

module _ (p : Params) (me : ℕ) (xs : List (Item Word)) (i : Input Word) (leaf : ℕ) (slot : Slot) (v : Option Value) where
  abbrev later : List (Item Word)
  later = and_then echo p me xs i leaf

  one-in : v ≡ newly (decided p me xs slot.0) (decided p me later slot.0) → (s : Slot) (x : Value) →
      In {A = Slot × Value} (s, x) (one_at slot v) →
      (decided p me later s.0 ≡ Some x) × (delivered echo p me xs s.0 ≡ None)
  one-in is s x = go v refl
    where
      go : (o : Option Value) → v ≡ o → In {A = Slot × Value} (s, x) (one_at slot o) →
          (decided p me later s.0 ≡ Some x) × (delivered echo p me xs s.0 ≡ None)
      go None q h = absurd h
      go (Some y) q (inr h) = absurd h
      go (Some y) q (inl e) =
          let k = newly-is (decided p me xs slot.0) (decided p me later slot.0) y (sym is ∙ q) in
          subst (λ (z : Slot × Value). (decided p me later z.0.0 ≡ Some z.1) × (delivered echo p me xs z.0.0 ≡ None)) (sym e) (k.1, delivered-is p me xs slot.0 ∙ k.0)

  one-only : v ≡ newly (decided p me xs slot.0) (decided p me later slot.0) →
      ((s : ℕ) → s ≢ slot.0 → decided p me later s ≡ decided p me xs s) →
      (s : Slot) (x : Value) → (decided p me later s.0 ≡ Some x) × (delivered echo p me xs s.0 ≡ None) → In {A = Slot × Value} (s, x) (one_at slot v)
  one-only is others s x h =
      let open' : decided p me xs s.0 ≡ None = sym (delivered-is p me xs s.0) ∙ h.1 in
      elim (same_or_not s.0 slot.0) [
        | inl e ↦
            let before : decided p me xs slot.0 ≡ None = subst (λ (n : ℕ). decided p me xs n ≡ None) e open' in
            let now : decided p me later slot.0 ≡ Some x = subst (λ (n : ℕ). decided p me later n ≡ Some x) e h.0 in
            let found : v ≡ Some x = is ∙ ap (λ (o : Option Value). newly o (decided p me later slot.0)) before ∙ now in
            subst (λ (o : Option Value). In {A = Slot × Value} (s, x) (one_at slot o)) (sym found) (inl (pair-is s slot x e))
        | inr ne ↦ let k : Some x ≡ None = sym h.0 ∙ others s.0 ne ∙ open' in absurd cc
      ]

  pub delivers-at : v ≡ newly (decided p me xs slot.0) (decided p me later slot.0) →
      ((s : ℕ) → s ≢ slot.0 → decided p me later s ≡ decided p me xs s) → (ds : List (Slot × Value)) →
      ds ≡ one_at slot v → Delivers echo p me xs later ds
  delivers-at is others ds e = subst (λ (l : List (Slot × Value)). Delivers echo p me xs later l) (sym e)
      (Delivers-from echo p me xs i leaf (one_at slot v) (one-rises slot v) (λ s x. (one-in is s x, one-only is others s x)))
