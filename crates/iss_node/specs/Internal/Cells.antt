-- What deliveries do to the slots of a log: an empty slot takes the first value delivered for it, and no other slot
-- changes.
use Rattle.std.specs.Prelude.{◌≡◌, ℕ, ◌==◌, List, [], ◌∷◌, Option, Some, None, if◌then◌else◌}
use Rattle.iss_base.specs.Lists.{first_of}
use Rattle.iss_log.specs.LogState.{LogState, value_at}
use Rattle.iss_request.specs.declared.ids.Slot.{Slot}
use Rattle.iss_request.specs.declared.requests.Value.{Value}

-- The first value that is delivered for a slot.
abbrev pub given : List (Slot × Value) → ℕ → Option Value
given [] s = None
given (d ∷ ds) s = if d.0.0 == s then Some d.1 else given ds s

-- An empty slot takes the first value that is delivered for it, and no other slot changes.
pub record AreFilled (old : LogState) (ds : List (Slot × Value)) (new : LogState) : Type 0 where
  pub values : (s : ℕ) → value_at new s ≡ first_of (value_at old s) (given ds s)
  pub entries : new.entries ≡ old.entries
