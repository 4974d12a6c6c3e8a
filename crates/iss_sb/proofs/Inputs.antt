-- Inputs that are equal.
use Rattle.std.proofs.Common.{◌≡◌, ◌∙◌, ap}
use Rattle.iss_request.specs.declared.ids.Slot.{Slot}
use Rattle.iss_request.specs.declared.requests.Batch.{Batch}
use Rattle.iss_sb.specs.declared.effects.Input.{Input}
use Rattle.iss_sb.specs.declared.effects.Input.TheVariants.{Cast}

abbrev Same : {M : Type 0} → Input M → Input M → Type 0
Same x y = x ≡ y

pub cast-is : {M : Type 0} (s : Slot) (b : Batch) (x : Slot × Batch) → Same {M = M} (Cast s b) (Cast x.0 x.1) → x ≡ (s, b)
cast-is s b x h =
    let slots : x.0 ≡ s = cc in
    let batches : x.1 ≡ b = cc in
    ap (λ (t : Slot). let z : Slot × Batch = (t, x.1) in z) slots ∙ ap (λ (c : Batch). let z : Slot × Batch = (s, c) in z) batches
