-- The batches in flight at a node: those that it cast in slots which its log does not hold yet.
use Rattle.std.specs.Prelude.{◌≡◌, ℕ, ◌&&◌, not, nat_lt, cond, List, [], ◌∷◌}
use Rattle.iss_model.specs.Node.{flown, flying}
use Rattle.iss_request.specs.Log.{has_id}
use Rattle.iss_request.specs.declared.ids.ReqId.{ReqId}
use Rattle.iss_request.specs.declared.ids.Slot.{Slot}
use Rattle.iss_request.specs.declared.requests.Batch.{Batch}

pub record FlightState : Type 0 where
  -- The proposals, oldest first.
  pub casts : List (Slot × Batch)
  -- The identities of their requests, as a set.
  pub ids : List ReqId

-- The proposals for slots below n.
abbrev pub completed : ℕ → List (Slot × Batch) → List (Slot × Batch)
completed n [] = []
completed n (x ∷ xs) = cond (nat_lt x.0.0 n) (x ∷ completed n xs) (completed n xs)

-- Proposals for slots below n are no longer in flight.
pub record IsCompleted (old new : FlightState) (n : ℕ) : Type 0 where
  pub casts : new.casts ≡ flying n old.casts
  pub ids : (x : ReqId) → has_id x new.ids ≡ (has_id x old.ids && not (has_id x (flown (completed n old.casts))))
