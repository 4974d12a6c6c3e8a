-- What the definitions give for a small log: two requests in slot 0, nil in slot 1, one request in slot 2, and an empty
-- batch in slot 4, which cannot join because slot 3 is missing.
use Rattle.std.proofs.Common.{◌≡◌, ℕ, [], ◌∷◌, refl, Some, None}
use Rattle.iss_request.specs.Log.{requests}
use Rattle.iss_request.specs.declared.requests.Request.{Request}
use Rattle.iss_request.specs.declared.requests.Value.TheVariants.{Nil as Value_nil, Batch as Value_batch}
use Rattle.iss_log.specs.LogState.{LogState, value_at, first_number_of}

abbrev request : ℕ → Request
request t = record { id = record { client = 0; number = t }; payload = []; sig = [] }

abbrev example : LogState
example = record {
  entries = Value_batch (request 0 ∷ request 1 ∷ []) ∷ Value_nil ∷ Value_batch (request 7 ∷ []) ∷ [];
  ahead = (4, Value_batch []) ∷ [];
}

nil_counts_nothing : first_number_of example.entries 1 ≡ Some 2
nil_counts_nothing = refl

after_nil : first_number_of example.entries 2 ≡ Some 2
after_nil = refl

first_is_zero : first_number_of example.entries 0 ≡ Some 0
first_is_zero = refl

none_past : first_number_of example.entries 3 ≡ None
none_past = refl

all_three : requests example.entries ≡ 3
all_three = refl

gap : value_at example 3 ≡ None
gap = refl

nil_is_a_value : value_at example 1 ≡ Some Value_nil
nil_is_a_value = refl

behind_the_gap : value_at example 4 ≡ Some (Value_batch [])
behind_the_gap = refl
