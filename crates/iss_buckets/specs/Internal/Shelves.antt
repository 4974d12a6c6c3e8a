-- What the code keeps beside the waiting requests: a number above all of theirs, and the number of each identity.
use Rattle.std.specs.Prelude.{◌≡◌, ℕ, ◌<◌, ◌^◌, List, Some}
use Rattle.std.specs.Map.{lookup}
use Rattle.iss_request.specs.Log.{same_id}
use Rattle.iss_request.specs.declared.ids.ReqId.{ReqId}
use Rattle.iss_request.specs.declared.requests.Request.{Request}
use Rattle.iss_buckets.specs.Internal.Filed.{AreFiled, kept_at, number_of}

-- all arrival numbers are below the next one, and each identity's number is known
pub record IsShelf (next : ℕ) (es : List (ℕ × Request)) (numbers : List (ReqId × ℕ)) : Type 0 where
  pub filed : AreFiled 0 es
  pub small : next < 2 ^ 64
  pub below : (k : ℕ) (q : Request) → kept_at es k ≡ Some q → k < next
  pub known : (id : ReqId) → lookup (λ x. same_id id x) numbers ≡ number_of es id
