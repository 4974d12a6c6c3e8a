-- The slots of an epoch that became nil.
use Rattle.std.proofs.Common.{arith, ◌≡◌, ℕ, zero, suc, ◌+◌, ◌<◌, ◌≤◌, Bool, [], ◌∷◌, subst}
use Rattle.std.specs.List.{All, filter}
use Rattle.std.proofs.lemmas.List.Elements.{All-append, All-filter}
use Rattle.iss_layout.specs.Layout.{IsSlotOf, Plan, slots_from}
use Rattle.iss_request.specs.declared.ids.Slot.{Slot}

-- ---- consecutive slots

all-one : (P : Slot → Type 0) (x : Slot) → P x → All P (x ∷ [])
all-one P x h zero d lt = h
all-one P x h (suc k) d lt = absurd (omega (arith, lt))

slots-within : (first last k : ℕ) → first + k ≤ last → All (λ (s : Slot). (first ≤ s.0) × (s.0 < last)) (slots_from first k)
slots-within first last zero le = λ k d lt. absurd (omega (arith, lt))
slots-within first last (suc k) le =
    let low : first ≤ first + k = omega arith in
    let high : first + k < last = omega (arith, le) in
    All-append (λ (s : Slot). (first ≤ s.0) × (s.0 < last)) (slots_from first k) (record { 0 = first + k } ∷ [])
    (slots-within first last k (omega (arith, le))) (all-one (λ (s : Slot). (first ≤ s.0) × (s.0 < last)) (record { 0 = first + k }) (low, high))

-- Filtered slots of an epoch are slots of that epoch.
pub are-of : (plan : Plan) (p : Slot → Bool) (count : ℕ) → plan.slots ≡ count → All (λ (s : Slot). IsSlotOf plan s.0) (filter p (slots_from plan.start count))
are-of plan p count is =
    subst (λ (k : ℕ). All (λ (s : Slot). IsSlotOf plan s.0) (filter p (slots_from plan.start k))) is
    (All-filter p (λ (s : Slot). IsSlotOf plan s.0) (slots_from plan.start plan.slots) (slots-within plan.start (plan.start + plan.slots) plan.slots (omega arith)))
