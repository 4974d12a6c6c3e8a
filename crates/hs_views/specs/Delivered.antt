-- What a step delivers: the slots of a decided branch that were not yet delivered.
use Rattle.std.specs.Prelude.{◌≡◌, ◌≤◌, ◌⊎◌, ℕ, List, [], drop, Option, None}
use Rattle.iss_request.specs.declared.ids.Slot.{Slot}
use Rattle.iss_request.specs.declared.requests.Value.{Value}
use Rattle.iss_sb.specs.declared.effects.Params.{Params}
use Rattle.iss_sb.specs.declared.content.Content.{Content}
use Rattle.iss_sb.specs.Paired.{paired}
use Rattle.hs_tree.specs.Known.{values}
use Rattle.hs_tree.specs.Tree.{filled, value_at_slot}

-- the values f are those of a branch: what lies after the first `old` slots is delivered, up to the branch's end
pub record IsBranch (p : Params) (old new : ℕ) (ds : List (Slot × Value)) (f : ℕ → Option Value)
    (cs : List Content) : Type 0 where
  pub decides : (n : ℕ) → f n ≡ value_at_slot cs 0 p.slots n
  pub delivers : ds ≡ paired (drop old p.slots) (drop old (values cs))
  pub up_to : ((filled cs ≤ old) × (new ≡ old)) ⊎ ((old ≤ filled cs) × (new ≡ filled cs))

-- nothing is decided
pub record IsNone (old new : ℕ) (ds : List (Slot × Value)) (f : ℕ → Option Value) : Type 0 where
  pub decides : (n : ℕ) → f n ≡ None
  pub delivers : ds ≡ []
  pub same : new ≡ old

-- nothing is decided, or a branch is
abbrev pub IsDelivered : Params → ℕ → ℕ → List (Slot × Value) → (ℕ → Option Value) → Type 0
IsDelivered p old new ds f = IsNone old new ds f ⊎ ((cs : List Content) × IsBranch p old new ds f cs)
