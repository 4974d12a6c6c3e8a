-- How the code keeps waiting requests: each under the number of its arrival, and for each bucket the strictly
-- ascending numbers of its requests. The next request of a bucket is the first from a number on that passes a test.
use Rattle.std.specs.Prelude.{◌≡◌, ℕ, suc, min, not, ◌+◌, ◌%◌, ◌<◌, ◌≤◌, ◌==◌, ◌&&◌, Bool, true, false, if◌then◌else◌, List, [], ◌∷◌, length, get_or, Option, Some, None}
use mathlib.Core.HLevel.{×₃_prop}
use Rattle.std.specs.Coded.{Coded-set, coded_ℕ, coded_option, Unit-prop, le_prop}
use Rattle.std.specs.List.{list_any}
use Rattle.std.specs.Map.{lookup}
use Rattle.std.specs.Ordering.{is_eq, nat_cmp}
use Rattle.iss_request.specs.Log.{has_id, same_id}
use Rattle.iss_request.specs.declared.ids.ReqId.{ReqId}
use Rattle.iss_request.specs.declared.requests.Request.{Request}

-- the request with an arrival number, and the arrival number of an identity
abbrev pub kept_at : List (ℕ × Request) → ℕ → Option Request
kept_at es k = lookup (λ j. is_eq (nat_cmp k j)) es

abbrev pub number_of : List (ℕ × Request) → ReqId → Option ℕ
number_of [] id = None
number_of (e ∷ es) id = if same_id id e.1.id then Some e.0 else number_of es id

-- arrival numbers are strictly ascending, and no identity occurs twice
abbrev pub AreFiled : ℕ → List (ℕ × Request) → Type 0
AreFiled from [] = Unit {0}
AreFiled from (e ∷ es) = (from ≤ e.0) × (number_of es e.1.id ≡ None) × AreFiled (suc e.0) es

-- this has at most one proof, so that a type may have the fact as its invariant
pub filed_prop : (from : ℕ) (es : List (ℕ × Request)) → IsProp (AreFiled from es)
filed_prop from [] = Unit-prop
filed_prop from (e ∷ es) =
    ×₃_prop le_prop (Coded-set (coded_option coded_ℕ) (number_of es e.1.id) None) (filed_prop (suc e.0) es)

-- ---- queues of numbers, one for each bucket

-- whether queue b holds arrival number k
abbrev pub has_number : List (List ℕ) → ℕ → ℕ → Bool
has_number queues b k = list_any (λ j. is_eq (nat_cmp k j)) (get_or queues b [])

-- the queue of this bucket, if it is there, holds a number, or does not, and all else is unchanged
pub record IsSetAt (old new : List (List ℕ)) (bucket number : ℕ) (has : Bool) : Type 0 where
  pub size : length new ≡ length old
  pub at : (b k : ℕ) → b < length new →
      has_number new b k ≡ (if (b == bucket) && (k == number) then has else has_number old b k)

abbrev pub bucket_of_id : ℕ → ReqId → ℕ
bucket_of_id buckets id = (id.client + id.number) % buckets

abbrev pub is_in_bucket : ℕ → ℕ → Option Request → Bool
is_in_bucket buckets b None = false
is_in_bucket buckets b (Some q) = bucket_of_id buckets q.id == b

-- each bucket's queue holds the arrival numbers of its requests
abbrev pub AreQueued : List (ℕ × Request) → List (List ℕ) → Type 0
AreQueued es queues = (b k : ℕ) → b < length queues →
    has_number queues b k ≡ is_in_bucket (length queues) b (kept_at es k)

-- ---- the next request that passes a test, from a number on

-- no request with an arrival number in this range passes the test
abbrev pub FailBetween : (Request → Bool) → List (ℕ × Request) → ℕ → ℕ → Type 0
FailBetween p es from to = (k : ℕ) (q : Request) → from ≤ k → k < to → kept_at es k ≡ Some q → p q ≡ false

abbrev pub FailFrom : (Request → Bool) → List (ℕ × Request) → ℕ → Type 0
FailFrom p es from = (k : ℕ) (q : Request) → from ≤ k → kept_at es k ≡ Some q → p q ≡ false

pub record PassesFirst (p : Request → Bool) (es : List (ℕ × Request)) (from number : ℕ) : Type 0 where
  pub request : Request
  pub from_on : from ≤ number
  pub kept : kept_at es number ≡ Some request
  pub passes : p request ≡ true
  pub before : FailBetween p es from number

abbrev pub IsNext : (Request → Bool) → List (ℕ × Request) → ℕ → Option ℕ → Type 0
IsNext p es from None = FailFrom p es from
IsNext p es from (Some number) = PassesFirst p es from number

-- the request is in the bucket and not marked
abbrev pub is_unmarked_in : ℕ → ℕ → List ReqId → Request → Bool
is_unmarked_in buckets b marked q = (bucket_of_id buckets q.id == b) && not (has_id q.id marked)

abbrev pub least_of : Option ℕ → Option ℕ → Option ℕ
least_of None b = b
least_of (Some x) None = Some x
least_of (Some x) (Some y) = Some (min x y)
