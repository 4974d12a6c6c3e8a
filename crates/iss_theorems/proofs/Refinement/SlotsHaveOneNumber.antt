-- The number of the first request of a slot.
use Rattle.std.proofs.Common.{◌≡◌, ℕ, ◌<◌, Bool, true, false, List, length, take, Some, None, refl, sym, ap, ◌∙◌, arith}
use Rattle.std.specs.Prelude.{if◌then◌else◌, nat_lt}
use Rattle.std.proofs.lemmas.Bool.{ltb-true}
use Rattle.std.proofs.lemmas.List.{take-append-le}
use Rattle.iss_base.proofs.Lists.{some-injective}
use Rattle.iss_log.specs.LogState.{first_number_of}
use Rattle.iss_model.specs.Runs.{IsPrefix}
use Rattle.iss_request.specs.Log.{requests}
use Rattle.iss_request.specs.declared.requests.Value.{Value}

was-some : (b : Bool) (x k : ℕ) → (if b then Some x else None) ≡ Some k → (b ≡ true) × (x ≡ k)
was-some true x k e = (refl, some-injective x k e)
was-some false x k e = absurd cc

-- a longer log has the same numbers at the old slots
pub same-numbers : (a b : List Value) (slot k l : ℕ) → IsPrefix a b → first_number_of a slot ≡ Some k → first_number_of b slot ≡ Some l → k ≡ l
same-numbers a b slot k l (rest, is) ka lb =
    let short = was-some (nat_lt slot (length a)) (requests (take slot a)) k ka in
    let long = was-some (nat_lt slot (length b)) (requests (take slot b)) l lb in
    let below : slot < length a = ltb-true slot (length a) short.0 in
    let front : take slot b ≡ take slot a = ap (λ (xs : List Value). take slot xs) is ∙ take-append-le slot a rest (omega (arith, below)) in
    sym short.1 ∙ ap requests (sym front) ∙ long.1
