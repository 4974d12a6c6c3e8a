-- Identities that stand twice in a list, and the marks after a batch is accepted.
use Rattle.std.specs.Prelude.{Bool, false, ◌||◌, List, [], ◌∷◌, Option, Some, None}
use Rattle.iss_window.specs.Ids.{and_ids}
use Rattle.iss_request.specs.declared.ids.Slot.{Slot}
use Rattle.iss_request.specs.declared.requests.Batch.{Batch}
use Rattle.iss_request.specs.Log.{has_id}
use Rattle.iss_request.specs.declared.ids.ReqId.{ReqId}

abbrev pub twice : List ReqId → Bool
twice [] = false
twice (x ∷ xs) = has_id x xs || twice xs

-- The identities after a batch was accepted.
abbrev pub and_marks : List ReqId → Option (Slot × Batch) → List ReqId
and_marks marked None = marked
and_marks marked (Some a) = and_ids marked a.1
