-- Slots with the values that are delivered there.
use Rattle.std.specs.Prelude.{ℕ, ◌==◌, List, [], ◌∷◌, Option, Some, None, if◌then◌else◌}
use Rattle.iss_request.specs.declared.ids.Slot.{Slot}
use Rattle.iss_request.specs.declared.requests.Value.{Value}

-- slots with their values, up to the shorter of both lists
abbrev pub paired : List Slot → List Value → List (Slot × Value)
paired [] vs = []
paired (s ∷ ss) [] = []
paired (s ∷ ss) (v ∷ vs) = (s, v) ∷ paired ss vs

-- the value that is paired with the slot of this number
abbrev pub value_with : ℕ → List Slot → List Value → Option Value
value_with n [] vs = None
value_with n (s ∷ ss) [] = None
value_with n (s ∷ ss) (v ∷ vs) = if s.0 == n then Some v else value_with n ss vs
