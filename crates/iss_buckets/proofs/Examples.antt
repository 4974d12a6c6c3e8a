-- Three nodes, three buckets, epoch 0, all lead: node 0 owns bucket 0, which has the numbers 0, 3, 6 of client 0.
use Rattle.std.proofs.Common.{◌≡◌, ℕ, List, [], ◌∷◌, refl}
use Rattle.iss_request.specs.declared.ids.ReqId.{ReqId}
use Rattle.iss_request.specs.declared.requests.Request.{Request}
use Rattle.iss_layout.specs.Layout.{Plan, nodes_below}
use Rattle.iss_buckets.specs.Waiting.{may_cast, cut, uncut, absent}

abbrev plan : Plan
plan = record { epoch = 0; start = 0; nodes = 3; slots = 6; buckets = 3; leaders = nodes_below 3 }

abbrev id : ℕ → ReqId
id t = record { client = 0; number = t }

abbrev request : ℕ → Request
request t = record { id = id t; payload = []; sig = [] }

abbrev waiting : List Request
waiting = request 6 ∷ request 1 ∷ request 0 ∷ request 3 ∷ []

-- the oldest two, though their numbers are not the least
two_of_bucket_0 : cut 2 (may_cast plan 0 []) waiting ≡ request 6 ∷ request 0 ∷ []
two_of_bucket_0 = refl

rest_of_bucket_0 : uncut 2 (may_cast plan 0 []) waiting ≡ request 1 ∷ request 3 ∷ []
rest_of_bucket_0 = refl

marked_is_passed_over : cut 2 (may_cast plan 0 (id 6 ∷ [])) waiting ≡ request 0 ∷ request 3 ∷ []
marked_is_passed_over = refl

ordered_wait_no_more : absent (id 0 ∷ id 6 ∷ []) waiting ≡ request 1 ∷ request 3 ∷ []
ordered_wait_no_more = refl
