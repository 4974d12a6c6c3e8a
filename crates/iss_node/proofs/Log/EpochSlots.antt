-- The slots of an epoch in a log, and values with their slots.
use Rattle.std.proofs.Common.{arith, ◌≡◌, ℕ, zero, suc, ◌+◌, ◌-◌, ◌*◌, ◌<◌, ◌≤◌, true, false, ◌==◌, List, [], ◌∷◌, ◌++◌, Option, Some, None, length, nat_le, refl, sym, ap, ◌∙◌, slice_get}
use Rattle.std.proofs.lemmas.Bool.Decides.{nat_tests}
use Rattle.iss_base.specs.Lists.{first_of, nth}
use Rattle.iss_base.proofs.Lists.{none-some}
use Rattle.iss_log.specs.LogState.{LogState, ahead_at, value_at}
use Rattle.iss_node.specs.Internal.Cells.{given}
use Rattle.iss_node.specs.State.{StateView}
use Rattle.iss_node.specs.Internal.Transfers.{at_slots, held_slots}
use Rattle.iss_request.specs.declared.ids.Slot.{Slot}
use Rattle.iss_request.specs.declared.requests.Value.{Value}

-- ---- values with their slots

given-slots : (first : ℕ) (values : List Value) (k : ℕ) → given (at_slots first values) (first + k) ≡ nth values k
given-slots first [] k = refl
given-slots first (v ∷ vs) zero = let same : (first == first + 0) ≡ true = grind (arith, nat_tests) in rw same refl
given-slots first (v ∷ vs) (suc k) =
    let other : (first == first + suc k) ≡ false = grind (arith, nat_tests) in
    let on : first + suc k ≡ suc first + k = omega arith in
    rw other (ap (λ (j : ℕ). given (at_slots (suc first) vs) j) on ∙ given-slots (suc first) vs k)

pub given-at : (first : ℕ) (values : List Value) (k : ℕ) → first ≤ k → given (at_slots first values) k ≡ nth values (k - first)
given-at first values k le =
    let q : k ≡ first + (k - first) = omega (arith, le) in
    ap (λ (j : ℕ). given (at_slots first values) j) q ∙ given-slots first values (k - first)

in-slice : (xs : List Value) (k : ℕ) → k < length xs → (x : Value) × (slice_get xs k ≡ Some x)
in-slice [] k lt = absurd (omega (arith, lt))
in-slice (x ∷ xs) zero lt = (x, refl)
in-slice (x ∷ xs) (suc k) lt = in-slice xs k (omega (arith, lt))

-- A slot of the log has a value.
pub not-empty : (log : LogState) (k : ℕ) → k < length log.entries → value_at log k ≡ None → ⊥
not-empty log k lt none =
    let x = in-slice log.entries k lt in
    none-some x.0 (sym none ∙ ap (λ (o : Option Value). first_of o (ahead_at log.ahead k)) x.1)

-- One more value.
pub at-next : (first : ℕ) (xs : List Value) (v : Value) → at_slots first (xs ++ v ∷ []) ≡ at_slots first xs ++ (record { 0 = first + length xs }, v) ∷ []
at-next first [] v = let same : first ≡ first + 0 = omega arith in ap (λ (k : ℕ). let x : Slot × Value = (record { 0 = k }, v) in x ∷ []) same
at-next first (x ∷ xs) v =
    let on : suc first + length xs ≡ first + suc (length xs) = omega arith in
    ap (λ (ds : List (Slot × Value)). (record { 0 = first }, x) ∷ ds)
    (at-next (suc first) xs v ∙ ap (λ (k : ℕ). let d : Slot × Value = (record { 0 = k }, v) in at_slots (suc first) xs ++ d ∷ []) on)

-- ---- the slots of an epoch

-- If an epoch has at least one slot, e epochs have at least e slots.
pub at-least : (e k : ℕ) → 0 < k → e ≤ e * k
at-least zero k lt = omega arith
at-least (suc e) k lt = let h = at-least e k lt in omega (arith, h, lt)

module _ {M Msg : Type 0} (v : StateView M Msg) (e : ℕ) where
  pub no-slots : length v.log.entries < suc e * v.setup.epoch → None ≡ held_slots v e
  no-slots lt = let short : nat_le (suc e * v.setup.epoch) (length v.log.entries) ≡ false = grind (arith, nat_tests) in rw short refl

  pub the-slots : (first end : ℕ) → suc e * v.setup.epoch ≤ length v.log.entries → first ≡ e * v.setup.epoch → end ≡ suc e * v.setup.epoch → Some (first, end) ≡ held_slots v e
  the-slots first end le a b =
      let full : nat_le (suc e * v.setup.epoch) (length v.log.entries) ≡ true = grind (arith, nat_tests) in
      rw full (ap (λ (k : ℕ). Some (k, end)) a ∙ ap (λ (k : ℕ). Some (e * v.setup.epoch, k)) b)
