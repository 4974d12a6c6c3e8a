use Rattle.std.proofs.Common.{◌≡◌, ℕ, ◌<◌, slice_get}
use Rattle.std.specs.Prelude.{Some}
use Rattle.iss_keys.specs.Internal.Questions.{Question}
use Rattle.iss_keys.proofs.answers.find_answer.Given as goal

-- the question is not among the places visited so far
abbrev pub invariant-places : goal.invariant-places
invariant-places l =
    let q : Question = record { key = l.key; statement = l.statement; signature = l.signature } in
    (k : ℕ) → k < l.place-index → slice_get l.answers k ≡ Some (Some q) → ⊥
