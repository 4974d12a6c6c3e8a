-- How the code keeps the batches that it accepted: by slot.
use Rattle.std.specs.Prelude.{◌≡◌, ℕ, Bool, List, [], Option, Some, None, ◌++◌}
use Rattle.std.specs.BTreeMap.{get}
use Rattle.std.specs.List.{list_any}
use Rattle.std.specs.Ordering.{nat_cmp}
use Rattle.iss_request.specs.declared.ids.Slot.{Slot}
use Rattle.iss_request.specs.declared.requests.Batch.{Batch}
use Rattle.iss_sb.specs.declared.content.Content.{Content}
use Rattle.iss_sb.specs.declared.content.Content.TheVariants.{Nil, Holds, Mark}
use Rattle.hs_views.specs.declared.accepted.Accepted.{Accepted}
use Rattle.hs_views.specs.Batches.{same_batch, was_accepted}

-- whether the batch is in the list
abbrev pub is_among : Batch → List Batch → Bool
is_among b cs = list_any (λ c. same_batch c b) cs

-- the list, empty if there is none
abbrev pub batches_in : Option (List Batch) → List Batch
batches_in None = []
batches_in (Some cs) = cs

-- the batches kept for a slot
abbrev pub batches_at : Accepted → ℕ → List Batch
batches_at m s = batches_in (get nat_cmp m.all s)

-- the map represents the list of accepted batches with their slots
abbrev pub AreAccepted : Accepted → List (Slot × Batch) → Type 0
AreAccepted m old = (s : ℕ) (b : Batch) → is_among b (batches_at m s) ≡ was_accepted s b old

-- the batch with the slot, if there is one
abbrev pub at_slot : Batch → Option Slot → Option (Slot × Batch)
at_slot b None = None
at_slot b (Some s) = Some (s, b)

-- the batch that the node holds, with the slot, if there are both
abbrev pub what_at : Content → Option Slot → Option (Slot × Batch)
what_at Nil o = None
what_at (Holds b) o = at_slot b o
what_at Mark o = None

-- these batches are added to those accepted before
abbrev pub Adds : Accepted → Accepted → List (Slot × Batch) → Type 0
Adds old new more = (before : List (Slot × Batch)) → AreAccepted old before → AreAccepted new (more ++ before)
