-- The waiting requests of a node: a list in order of arrival, in which no identity stands twice. A batch is cut from
-- the first n requests that the node may cast: their bucket is its own, and nothing marks them. The model cuts batches
-- by these same definitions.
use Rattle.std.specs.Prelude.{◌≡◌, ◌&&◌, not, ℕ, zero, suc, Bool, cond, false, List, [], ◌∷◌, ◌++◌}
use Rattle.iss_request.specs.Log.{has_id, ids}
use Rattle.iss_request.specs.declared.ids.ReqId.{ReqId}
use Rattle.iss_request.specs.declared.requests.Request.{Request}
use Rattle.iss_layout.specs.Layout.{Plan, is_node, bucket_owner, bucket_of}

-- whether a request with this identity waits
abbrev pub waits : ReqId → List Request → Bool
waits id qs = has_id id (ids qs)

-- whether a node may propose a request: it owns the bucket, and the identity is not marked as accepted in its instance
abbrev pub may_cast : Plan → ℕ → List ReqId → Request → Bool
may_cast p owner marked q = is_node owner (bucket_owner p (bucket_of p q.id)) && not (has_id q.id marked)

-- the first n requests that pass a test, and the others
-- rule: Buckets: A batch takes the first waiting requests of the leader's buckets that are not marked
abbrev pub cut : ℕ → (Request → Bool) → List Request → List Request
cut n passes [] = []
cut zero passes (q ∷ qs) = []
cut (suc n) passes (q ∷ qs) = cond (passes q) (q ∷ cut n passes qs) (cut (suc n) passes qs)

abbrev pub uncut : ℕ → (Request → Bool) → List Request → List Request
uncut n passes [] = []
uncut zero passes (q ∷ qs) = q ∷ qs
uncut (suc n) passes (q ∷ qs) = cond (passes q) (uncut n passes qs) (q ∷ uncut (suc n) passes qs)

-- the requests whose identity is not in the list
-- rule: Buckets: A request that enters the log waits no more
abbrev pub absent : List ReqId → List Request → List Request
absent gone [] = []
absent gone (q ∷ qs) = cond (has_id q.id gone) (absent gone qs) (q ∷ absent gone qs)

-- the requests have different identities, and none of them waits
-- rule: Buckets: A request waits at most once, in order of arrival
-- rule: Buckets: Requests that return wait behind all others
abbrev pub AreNew : List Request → List Request → Type 0
AreNew waiting [] = Unit {0}
AreNew waiting (q ∷ qs) = (waits q.id waiting ≡ false) × AreNew (waiting ++ q ∷ []) qs
