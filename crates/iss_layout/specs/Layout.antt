-- Which node leads which slots of an epoch, and which node owns which bucket of requests. Leaders follow from set-up,
-- epoch and the log before it, by one of three policies (simple, backoff, blacklist). The slots of an epoch go round
-- among its leaders. A bucket's owner is its home node, which moves on by one each epoch, if that leads; else the
-- leaders take turns. For this the log is cut into the epochs that have ended, each with its slots that hold nil.
-- There is always a leader: where the policy admits none, all nodes lead.
use Rattle.std.specs.Prelude.{◌≡◌, ℕ, zero, suc, ◌+◌, ◌-◌, ◌*◌, ◌%◌, ◌^◌, ◌<◌, ◌≤◌, ◌==◌, min, max, nat_lt, nat_le}
use Rattle.std.specs.Prelude.{Bool, true, false, not, ◌&&◌, List, [], ◌∷◌, ◌++◌, length, Option, Some, None, get_or, slice_get, if◌then◌else◌, ◌↔◌}
use Rattle.std.specs.List.{count_by, filter, list_any}
use Rattle.iss_base.specs.Lists.{In}
use Rattle.iss_request.specs.Formats.{is_batch}
use Rattle.iss_request.specs.Setup.{AreAscendingBelow}
use Rattle.iss_request.specs.Slots.{AreAscending}
use Rattle.iss_request.specs.declared.ids.NodeId.{NodeId}
use Rattle.iss_request.specs.declared.ids.ReqId.{ReqId}
use Rattle.iss_request.specs.declared.ids.Slot.{Slot}
use Rattle.iss_request.specs.declared.requests.Value.{Value}
use Rattle.iss_request.specs.declared.setups.Policy.{Policy}
use Rattle.iss_request.specs.declared.setups.Policy.TheVariants.{Simple, Backoff, Blacklist}
use Rattle.iss_request.specs.declared.setups.Setup.{Setup}

-- what the division of an epoch is a function of
pub record Plan : Type 0 where
  pub epoch : ℕ
  -- the epoch's first slot: the sum of the lengths of earlier epochs
  pub start : ℕ
  pub nodes : ℕ
  -- the number of slots of an epoch
  pub slots : ℕ
  pub buckets : ℕ
  -- the leaders, ascending
  pub leaders : List NodeId

abbrev pub node : ℕ → NodeId
node i = record { 0 = i }

-- the nodes below n, ascending
abbrev pub nodes_below : ℕ → List NodeId
nodes_below zero = []
nodes_below (suc n) = nodes_below n ++ node n ∷ []

-- the leader at turn k, round-robin in ascending order
abbrev pub at_turn : List NodeId → ℕ → Option NodeId
at_turn leaders k = slice_get leaders (k % length leaders)

abbrev pub first_slot : Plan → ℕ
first_slot p = p.start

-- the slot is in the epoch
abbrev pub IsSlotOf : Plan → ℕ → Type 0
IsSlotOf p s = (first_slot p ≤ s) × (s < first_slot p + p.slots)

-- the slots of an epoch are dealt to its leaders round-robin
-- rule: Layout: The leaders of an epoch take its slots in turn
abbrev pub slot_leader : Plan → ℕ → Option NodeId
slot_leader p s = at_turn p.leaders (s - first_slot p)

abbrev pub leads : Plan → ℕ → Bool
leads p i = list_any (λ l. l.0 == i) p.leaders

-- a bucket's home rotates by one node each epoch
abbrev pub home : Plan → ℕ → ℕ
home p b = (b + p.epoch) % p.nodes

-- The home owns the bucket if it leads. Otherwise the leaders share such buckets round-robin.
-- rule: Layout: A bucket's home moves by one node an epoch and owns it if it leads; else leaders take turns
abbrev pub bucket_owner : Plan → ℕ → Option NodeId
bucket_owner p b = if leads p (home p b) then Some (node (home p b)) else at_turn p.leaders (b + p.epoch)

-- the bucket of a request
-- rule: Layout: A request's bucket is a function of its client and number alone
abbrev pub bucket_of : Plan → ReqId → ℕ
bucket_of p q = (q.client + q.number) % p.buckets

-- n slots from the first on, ascending
abbrev pub slots_from : ℕ → ℕ → List Slot
slots_from first zero = []
slots_from first (suc k) = slots_from first k ++ record { 0 = first + k } ∷ []

abbrev pub is_node : ℕ → Option NodeId → Bool
is_node i None = false
is_node i (Some l) = l.0 == i

abbrev pub is_slot_of_leader : Plan → ℕ → Slot → Bool
is_slot_of_leader p i s = is_node i (slot_leader p s.0)

-- a node's segment: the slots of the epoch that it leads, ascending
abbrev pub segment : Plan → ℕ → List Slot
segment p i = filter (is_slot_of_leader p i) (slots_from (first_slot p) p.slots)

-- ---- leaders

-- an epoch that has ended: its plan, and its slots that became nil
pub record Ended : Type 0 where
  pub plan : Plan
  pub nils : List Slot

-- whether a slot of the epoch became nil under this leader
abbrev pub has_failed : Ended → ℕ → Bool
has_failed x i = list_any (is_slot_of_leader x.plan i) x.nils

-- What follows is a function of the ended epochs, newest first.

-- Backoff: a leader's weight doubles (from 1, to at most 64) in an epoch in which it fails, and falls by one in any
-- other that it leads.
abbrev pub doubled : ℕ → ℕ
doubled w = if w == 0 then 1 else min (2 * w) 64

-- rule: Layout: A leader with a nil slot is banned for its weight, which doubles up to 64; else it loses one
abbrev pub weight : List Ended → ℕ → ℕ
weight [] i = 0
weight (x ∷ past) i = if leads x.plan i then (if has_failed x i then doubled (weight past i) else weight past i - 1)
    else weight past i

-- For how many more epochs the node does not lead: its weight, after an epoch in which it failed.
abbrev pub ban : List Ended → ℕ → ℕ
ban [] i = 0
ban (x ∷ past) i = if leads x.plan i then (if has_failed x i then doubled (weight past i) else 0) else ban past i - 1

-- all slots that became nil under the node
abbrev pub nils_under : List Ended → ℕ → List Slot
nils_under [] i = []
nils_under (x ∷ past) i = filter (is_slot_of_leader x.plan i) x.nils ++ nils_under past i

-- one more than the greatest of these slots, 0 if there is none
abbrev pub past_all : List Slot → ℕ
past_all [] = 0
past_all (s ∷ ss) = max (suc s.0) (past_all ss)

-- what the leader policies know of a node
pub record Conduct : Type 0 where
  pub weight : ℕ
  pub ban : ℕ
  -- one more than the greatest slot that became nil under the node, 0 if there is none
  pub worst : ℕ

abbrev pub conduct_of : List Ended → ℕ → Conduct
conduct_of past i = record { weight = weight past i; ban = ban past i; worst = past_all (nils_under past i) }

-- Blacklist: a node is listed if a slot became nil under it, and at most f nodes (itself included) have one as late.
-- rule: Layout: The blacklist leaves out the at most f nodes with the greatest nil slots
abbrev pub is_listed : Setup → (ℕ → Conduct) → NodeId → Bool
is_listed s c i = nat_lt 0 (c i.0).worst &&
    nat_le (count_by (λ j. nat_le (c i.0).worst (c j.0).worst) (nodes_below s.n)) s.f

abbrev pub may_lead : Policy → Setup → (ℕ → Conduct) → NodeId → Bool
may_lead Simple s c i = true
may_lead Backoff s c i = (c i.0).ban == 0
may_lead Blacklist s c i = not (is_listed s c i)

abbrev pub or_else : List NodeId → List NodeId → List NodeId
or_else [] all = all
or_else (l ∷ ls) all = l ∷ ls

-- The nodes that the policy allows. If it allows none, all lead (only backoff can allow none).
abbrev pub leaders_by : Setup → (ℕ → Conduct) → List NodeId
leaders_by s c = or_else (filter (may_lead s.policy s c) (nodes_below s.n)) (nodes_below s.n)

abbrev pub plan_by : Setup → ℕ → ℕ → (ℕ → Conduct) → Plan
plan_by s e start c =
    record { epoch = e; start = start; nodes = s.n; slots = s.epoch; buckets = s.buckets; leaders = leaders_by s c }

-- ---- the epochs of a log

abbrev pub is_nil_at : List Value → ℕ → Bool
is_nil_at [] slot = false
is_nil_at (v ∷ older) slot = if slot == length older then not (is_batch v) else is_nil_at older slot

-- the slots of an epoch that hold nil, ascending
abbrev pub nils_in : Plan → List Value → List Slot
nils_in p log = filter (λ s. is_nil_at log s.0) (slots_from p.start p.slots)

-- the number of slots of these epochs
abbrev pub slots_in : List Ended → ℕ
slots_in [] = 0
slots_in (x ∷ past) = slots_in past + x.plan.slots

-- the epoch after these, in a log that holds it
abbrev pub next_ended : Setup → ℕ → List Value → List Ended → Ended
next_ended s e log past =
    let p = plan_by s e (slots_in past) (conduct_of past) in
    record { plan = p; nils = nils_in p log }

abbrev pub with_next : Setup → ℕ → List Value → List Ended → List Ended
with_next s e log past = next_ended s e log past ∷ past

-- the first e epochs of a log, newest first
-- rule: Layout: Who leads an epoch is a function of the log before it
-- rule: Epochs: The policy reads the nil slots of an epoch before the next one is divided
abbrev pub epochs : Setup → ℕ → List Value → List Ended
epochs s zero log = []
epochs s (suc e) log = with_next s e log (epochs s e log)

-- the leaders of epoch e, given the log before it
abbrev pub leaders_of : Setup → ℕ → List Value → List NodeId
leaders_of s e log = leaders_by s (conduct_of (epochs s e log))

-- the plan of epoch e with this first slot, given the log before it
abbrev pub plan_of : Setup → ℕ → ℕ → List Value → Plan
plan_of s e start log = plan_by s e start (conduct_of (epochs s e log))

-- An epoch's plan is a function of the log before it, and earlier epochs fill all slots before it.
pub record IsOfThePast (s : Setup) (e : ℕ) (log newer : List Value) : Type 0 where
  pub same : epochs s e (newer ++ log) ≡ epochs s e log
  pub plan : (start : ℕ) → plan_of s e start (newer ++ log) ≡ plan_of s e start log
  pub starts : slots_in (epochs s e log) ≡ e * s.epoch

-- the conduct of each node, which is carried from epoch to epoch in place of the log
abbrev pub carried : List Conduct → ℕ → Conduct
carried cs i = get_or cs i (record { weight = 0; ban = 0; worst = 0 })

abbrev pub IsStanding : Setup → List Ended → List Conduct → Type 0
IsStanding s past cs = (i : ℕ) → i < s.n → carried cs i ≡ conduct_of past i

-- ---- what holds of every epoch

-- the bounds of each epoch's plan under a good set-up
pub record IsGoodPlan (p : Plan) : Type 0 where
  pub ascending : AreAscendingBelow 0 p.nodes p.leaders
  pub some : 1 ≤ length p.leaders
  pub no_more : length p.leaders ≤ p.nodes
  pub few_nodes : p.nodes ≤ 10
  pub enough : p.nodes ≤ p.slots
  pub few_slots : p.slots ≤ 64
  pub some_buckets : 1 ≤ p.buckets
  pub few_buckets : p.buckets ≤ 256
  pub fits : first_slot p + p.slots ≤ 2 ^ 64

-- the slot is in the segment of exactly one node, which leads
pub record HasOneLeader (p : Plan) (s : Slot) : Type 0 where
  pub leader : NodeId
  pub leads : In leader p.leaders
  pub is : slot_leader p s.0 ≡ Some leader
  pub within : In s (segment p leader.0)
  pub only : (i : ℕ) → In s (segment p i) → i ≡ leader.0

-- A leader owns the bucket. It is the only owner, since ownership is a function of the bucket.
pub record HasOwner (p : Plan) (b : ℕ) : Type 0 where
  pub owner : NodeId
  pub leads : In owner p.leaders
  pub is : bucket_owner p b ≡ Some owner

-- what an instance requires of its segment
pub record IsSegment (p : Plan) (i : ℕ) : Type 0 where
  pub slots : (s : Slot) → In s (segment p i) ↔ (IsSlotOf p s.0 × (slot_leader p s.0 ≡ Some (node i)))
  pub ascending : AreAscending 0 (segment p i)
  pub few : length (segment p i) ≤ 64
  pub some : In (node i) p.leaders → 1 ≤ length (segment p i)

pub record IsFair (p : Plan) : Type 0 where
  pub some : 1 ≤ length p.leaders
  -- existing nodes, strictly ascending
  pub nodes : AreAscendingBelow 0 p.nodes p.leaders
  pub led : (s : Slot) → IsSlotOf p s.0 → HasOneLeader p s
  pub owned : (b : ℕ) → HasOwner p b
  pub segments : (i : ℕ) → IsSegment p i
