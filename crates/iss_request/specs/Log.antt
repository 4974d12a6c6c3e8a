-- Identities and logs of values. A request's identity is its client and number, whatever its payload. A log is kept
-- newest first. The first number of a value counts the requests before it; nil holds none.
use Rattle.std.specs.Prelude.{ℕ, ◌+◌, Bool, false, ◌==◌, ◌&&◌, ◌||◌, List, [], ◌∷◌, ◌++◌, length}
use Rattle.iss_base.specs.Lists.{Different}
use Rattle.iss_request.specs.declared.ids.ReqId.{ReqId}
use Rattle.iss_request.specs.declared.requests.Request.{Request}
use Rattle.iss_request.specs.declared.requests.Value.{Value}
use Rattle.iss_request.specs.declared.requests.Value.TheVariants.{Nil as Value_nil, Batch as Value_batch}

-- whether two identities are equal
abbrev pub same_id : ReqId → ReqId → Bool
same_id a b = (a.client == b.client) && (a.number == b.number)

abbrev pub has_id : ReqId → List ReqId → Bool
has_id x [] = false
has_id x (y ∷ ys) = same_id x y || has_id x ys

-- the identities of requests, of a value, and of all batches of a log
abbrev pub ids : List Request → List ReqId
ids [] = []
ids (q ∷ qs) = q.id ∷ ids qs

abbrev pub value_ids : Value → List ReqId
value_ids Value_nil = []
value_ids (Value_batch b) = ids b

abbrev pub log_ids : List Value → List ReqId
log_ids [] = []
log_ids (v ∷ older) = value_ids v ++ log_ids older

-- no request occurs twice in the log, whatever its payload
abbrev pub Once : List Value → Type 0
Once log = Different (log_ids log)

-- the number of requests in a value; nil has none
abbrev pub size_of : Value → ℕ
size_of Value_nil = 0
size_of (Value_batch b) = length b

-- the number of requests in a log, which is the number of the next value's first request
abbrev pub requests : List Value → ℕ
requests [] = 0
requests (v ∷ older) = size_of v + requests older
