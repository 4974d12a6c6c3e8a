-- The policies over logs of four nodes with epochs of four slots, one for each node in the first: a nil at slot 1 is
-- node 1's.
use Rattle.std.proofs.Common.{◌≡◌, List, [], ◌∷◌, refl, Some}
use Rattle.iss_request.specs.declared.ids.NodeId.{NodeId}
use Rattle.iss_request.specs.declared.requests.Value.{Value}
use Rattle.iss_request.specs.declared.requests.Value.TheVariants.{Nil as Value_nil, Batch as Value_batch}
use Rattle.iss_request.specs.declared.setups.Kind.TheVariants.{Byzantine}
use Rattle.iss_request.specs.declared.setups.Policy.{Policy}
use Rattle.iss_request.specs.declared.setups.Policy.TheVariants.{Simple, Backoff, Blacklist}
use Rattle.iss_request.specs.declared.setups.Setup.{Setup}
use Rattle.iss_layout.specs.Layout.{ban, bucket_owner, epochs, leaders_of, node, nodes_below, plan_of, segment, weight}

abbrev by : Policy → Setup
by policy = record {
  version = 1;
  «module» = 3;
  f = 1;
  epoch = 4;
  buckets = 4;
  batch = 4;
  window = 8;
  policy = policy;
  clients = 8;
  keys = 6;
  faulty = [];
  n = 4;
  quorum = 3;
  kind = Byzantine;
  tag = [];
}

abbrev all : List NodeId
all = nodes_below 4

abbrev but_1 : List NodeId
but_1 = node 0 ∷ node 2 ∷ node 3 ∷ []

abbrev empty : Value
empty = Value_batch []

-- the values of an epoch, in the order of its slots, after an older log
abbrev then : List Value → Value → Value → Value → Value → List Value
then log a b c d = d ∷ c ∷ b ∷ a ∷ log

-- node 1 fails in epoch 0, where slot 1 is its own
abbrev one : List Value
one = then [] empty Value_nil empty empty

abbrev two : List Value
two = then one empty empty empty empty

-- and again in epoch 2, which it leads: slot 9
abbrev three : List Value
three = then two empty Value_nil empty empty

abbrev four : List Value
four = then three empty empty empty empty

abbrev five : List Value
five = then four empty empty empty empty

all_lead_first : leaders_of (by Backoff) 0 [] ≡ all
all_lead_first = refl

weight_after_0 : weight (epochs (by Backoff) 1 one) 1 ≡ 1
weight_after_0 = refl

ban_after_0 : ban (epochs (by Backoff) 1 one) 1 ≡ 1
ban_after_0 = refl

backoff_1 : leaders_of (by Backoff) 1 one ≡ but_1
backoff_1 = refl

ban_after_1 : ban (epochs (by Backoff) 2 two) 1 ≡ 0
ban_after_1 = refl

backoff_2 : leaders_of (by Backoff) 2 two ≡ all
backoff_2 = refl

weight_after_2 : weight (epochs (by Backoff) 3 three) 1 ≡ 2
weight_after_2 = refl

backoff_3 : leaders_of (by Backoff) 3 three ≡ but_1
backoff_3 = refl

backoff_4 : leaders_of (by Backoff) 4 four ≡ but_1
backoff_4 = refl

backoff_5 : leaders_of (by Backoff) 5 five ≡ all
backoff_5 = refl

simple_1 : leaders_of (by Simple) 1 one ≡ all
simple_1 = refl

blacklist_1 : leaders_of (by Blacklist) 1 one ≡ but_1
blacklist_1 = refl

-- slots 4 to 7 belong to 0, 2, 3, 0, and buckets 0 to 3 to 2, 2, 3, 0
segment_0 : segment (plan_of (by Blacklist) 1 4 one) 0 ≡ record { 0 = 4 } ∷ record { 0 = 7 } ∷ []
segment_0 = refl

bucket_0 : bucket_owner (plan_of (by Blacklist) 1 4 one) 0 ≡ Some (node 2)
bucket_0 = refl

bucket_1 : bucket_owner (plan_of (by Blacklist) 1 4 one) 1 ≡ Some (node 2)
bucket_1 = refl

bucket_2 : bucket_owner (plan_of (by Blacklist) 1 4 one) 2 ≡ Some (node 3)
bucket_2 = refl

bucket_3 : bucket_owner (plan_of (by Blacklist) 1 4 one) 3 ≡ Some (node 0)
bucket_3 = refl

-- slot 6 belongs to node 3: it failed last, so it takes the one place on the list
blacklist_2 : leaders_of (by Blacklist) 2 (then one empty empty Value_nil empty) ≡ node 0 ∷ node 1 ∷ node 2 ∷ []
blacklist_2 = refl

-- nil slots of an epoch have no effect on its own leaders
not_its_own : leaders_of (by Blacklist) 1 (then one empty empty Value_nil empty) ≡ but_1
not_its_own = refl

-- if all fail, all are banned, and then all lead
abbrev all_fail : List Value
all_fail = then [] Value_nil Value_nil Value_nil Value_nil

backoff_all : leaders_of (by Backoff) 1 all_fail ≡ all
backoff_all = refl

blacklist_all : leaders_of (by Blacklist) 1 all_fail ≡ node 0 ∷ node 1 ∷ node 2 ∷ []
blacklist_all = refl
