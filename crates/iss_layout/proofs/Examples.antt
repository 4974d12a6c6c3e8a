-- Four nodes and four buckets under the simple policy, in epoch 1. All lead, each bucket's home has rotated by one
-- node, and slots 4 to 7 are dealt round-robin. If node 1 does not lead, its bucket and its slots go to others.
use Rattle.std.proofs.Common.{◌≡◌, [], ◌∷◌, refl, Some}
use Rattle.iss_layout.specs.Layout.{Plan, node, nodes_below, slot_leader, bucket_owner, bucket_of, segment}

abbrev all_lead : Plan
all_lead = record { epoch = 1; start = 4; nodes = 4; slots = 4; buckets = 4; leaders = nodes_below 4 }

bucket_0 : bucket_owner all_lead 0 ≡ Some (node 1)
bucket_0 = refl

bucket_1 : bucket_owner all_lead 1 ≡ Some (node 2)
bucket_1 = refl

bucket_3 : bucket_owner all_lead 3 ≡ Some (node 0)
bucket_3 = refl

slot_6 : slot_leader all_lead 6 ≡ Some (node 2)
slot_6 = refl

request_7_1 : bucket_of all_lead (record { client = 7; number = 1 }) ≡ 0
request_7_1 = refl

abbrev three_lead : Plan
three_lead = record { epoch = 1; start = 4; nodes = 4; slots = 4; buckets = 4; leaders = node 0 ∷ node 2 ∷ node 3 ∷ [] }

home_does_not_lead : bucket_owner three_lead 0 ≡ Some (node 2)
home_does_not_lead = refl

next_bucket : bucket_owner three_lead 1 ≡ Some (node 2)
next_bucket = refl

segment_of_0 : segment three_lead 0 ≡ record { 0 = 4 } ∷ record { 0 = 7 } ∷ []
segment_of_0 = refl

segment_of_1 : segment three_lead 1 ≡ []
segment_of_1 = refl
