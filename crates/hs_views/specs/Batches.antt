-- A batch is accepted once at a slot.
use Rattle.std.specs.Prelude.{ℕ, ◌==◌, ◌&&◌, ◌||◌, Bool, true, false, List, [], ◌∷◌, Option, Some, None, if◌then◌else◌}
use Rattle.iss_base.specs.Lists.{nth, same_bytes}
use Rattle.iss_request.specs.declared.ids.Slot.{Slot}
use Rattle.iss_request.specs.declared.requests.Batch.{Batch}
use Rattle.iss_request.specs.declared.requests.Request.{Request}
use Rattle.iss_sb.specs.declared.content.Content.{Content}
use Rattle.iss_sb.specs.declared.content.Content.TheVariants.{Nil, Holds, Mark}
use Rattle.iss_sb.specs.declared.effects.Params.{Params}

-- whether two requests are equal, byte by byte
abbrev pub same_request : Request → Request → Bool
same_request a b = ((a.id.client == b.id.client) && (a.id.number == b.id.number)) &&
    (same_bytes a.payload b.payload && same_bytes a.sig b.sig)

-- whether two batches are equal
abbrev pub same_batch : List Request → List Request → Bool
same_batch [] [] = true
same_batch [] (y ∷ ys) = false
same_batch (x ∷ xs) [] = false
same_batch (x ∷ xs) (y ∷ ys) = same_request x y && same_batch xs ys

-- whether the batch was accepted at the slot
abbrev pub was_accepted : ℕ → Batch → List (Slot × Batch) → Bool
was_accepted s b [] = false
was_accepted s b (a ∷ old) = ((a.0.0 == s) && same_batch a.1 b) || was_accepted s b old

-- the batch with its slot, if there is one and the batch was not accepted there
-- rule: HotStuff: A batch is accepted once at a slot
abbrev pub unless_accepted : List (Slot × Batch) → Batch → Option Slot → Option (Slot × Batch)
unless_accepted old b None = None
unless_accepted old b (Some s) = if was_accepted s.0 b old then None else Some (s, b)

-- the batch of a proposal, at the segment's slot of this place
abbrev pub offered_at : Params → List (Slot × Batch) → Content → ℕ → Option (Slot × Batch)
offered_at p old Nil place = None
offered_at p old (Holds b) place = unless_accepted old b (nth p.slots place)
offered_at p old Mark place = None
