-- When a request is valid in an epoch, and whether a batch is accepted in a segment: the first refusal that holds for
-- it or for any of its requests. In order:
-- too many requests; a bucket that the leader does not own; no such client, or a bad signature; a number outside its
-- window; a request that the log before the epoch holds; one accepted before in this segment, or twice in the batch.
use Rattle.std.specs.Prelude.{◌≡◌, ℕ, Bool, true, false, not, ◌||◌, ◌==◌, nat_lt, cond, List, [], ◌∷◌, ◌++◌, length, Option, Some, None}
use Rattle.std.specs.List.{list_any}
use Rattle.iss_base.specs.Lists.{In}
use Rattle.iss_request.specs.Log.{has_id, ids, log_ids}
use Rattle.iss_request.specs.declared.ids.ReqId.{ReqId}
use Rattle.iss_request.specs.declared.ids.Slot.{Slot}
use Rattle.iss_request.specs.declared.requests.Batch.{Batch}
use Rattle.iss_request.specs.declared.requests.Request.{Request}
use Rattle.iss_request.specs.declared.requests.Value.{Value}
use Rattle.iss_rules.specs.declared.events.Refusal.{Refusal}
use Rattle.iss_rules.specs.declared.events.Refusal.TheVariants.{TooLarge, ForeignBucket, BadSignature, OutOfWindow, Ordered, Marked}
use Rattle.iss_rules.specs.Rules.{Rules}

-- When a request is valid in an epoch (ISS, request validity). Its client exists and signed it, its number is inside
-- the client's window there, and the log before the epoch does not hold it.
-- rule: Acceptance: An accepted request is signed, inside its client's window, and of no earlier epoch
pub record IsValid (R : Rules) (before : List Value) (e : ℕ) (q : Request) : Type 0 where
  pub signed : R.signed q ≡ true
  pub inside : R.inside before e q.id ≡ true
  pub unordered : In q.id (log_ids before) → ⊥

-- some element passes the test
abbrev pub any : {A : Type 0} → (A → Bool) → List A → Bool
any p xs = list_any p xs

-- an identity is already marked, or occurs twice
abbrev pub any_marked : List ReqId → List ReqId → Bool
any_marked marked [] = false
any_marked marked (x ∷ xs) = has_id x marked || any_marked (x ∷ marked) xs

-- The judge: the first reason to refuse a batch of leader l in epoch e, or none. It sees the log before the epoch and
-- the requests already accepted in this instance (`marked`).
-- rule: Acceptance: A batch is refused for its first fault: size, bucket, signature, window, ordered, marked
-- rule: Acceptance: A batch with a request that its client did not sign is refused
-- rule: Acceptance: A batch is refused where its leader does not own the bucket of each request
abbrev pub judge : Rules → List Value → ℕ → ℕ → List ReqId → Batch → Option Refusal
judge R before e l marked batch =
    cond (nat_lt R.batch (length batch)) (Some TooLarge)
    (cond (any (λ (q : Request). not (R.owner before e q.id == l)) batch) (Some ForeignBucket)
    (cond (any (λ (q : Request). not (R.signed q)) batch) (Some BadSignature)
    (cond (any (λ (q : Request). not (R.inside before e q.id)) batch) (Some OutOfWindow)
    (cond (any (λ (q : Request). has_id q.id (log_ids before)) batch) (Some Ordered)
    (cond (any_marked marked (ids batch)) (Some Marked) None)))))

-- the identities of all accepted requests
-- rule: Acceptance: An accepted request is marked to the end of its epoch, also where its slot becomes nil
abbrev pub marks : List (Slot × Batch) → List ReqId
marks [] = []
marks (x ∷ xs) = ids x.1 ++ marks xs
