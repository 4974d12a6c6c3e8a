-- Facts about every reached world of Raft, as in the paper: one leader per term, log matching, and committed entries
-- in the log of each later leader. From them follow agreement and that the segment's leader accepted what is
-- delivered. What a replica had taken at a moment is a tail of its list.
use Rattle.std.specs.Prelude.{◌≡◌, ◌<◌, ◌≤◌, ℕ, List, ◌∷◌, ◌++◌, length, take, Some}
use Rattle.iss_base.specs.Lists.{In, nth}
use Rattle.iss_request.specs.declared.ids.Slot.{Slot}
use Rattle.iss_request.specs.declared.requests.Batch.{Batch}
use Rattle.iss_request.specs.declared.requests.Value.{Value}
use Rattle.iss_request.specs.declared.requests.Value.TheVariants.{Batch as Value_batch}
use Rattle.iss_sb.specs.declared.effects.Params.{Params}
use Rattle.iss_sb.specs.Evidence.{Item, World, accepts, delivered}
use Rattle.iss_sb.specs.Laws.{SharedAcceptor}
use Rattle.iss_sb.specs.Legal.{Front}
use Rattle.raft_wire.specs.declared.entries.Entry.{Entry}
use Rattle.iss_sb.specs.declared.content.Content.TheVariants.{Holds}
use Rattle.raft_wire.specs.declared.messages.Message.{Message}
use Rattle.sb_raft.specs.Logs.{filled, term_at}
use Rattle.sb_raft.specs.Raft.{commit, raft, raft_log, state}
use Rattle.sb_raft.specs.Rules.{Leader}

-- node i led term t when a was its history
pub record Leads (p : Params) (w : World Message) (i : ℕ) (a : List (Item Message)) (t : ℕ) : Type 0 where
  pub moment : Front a (w i)
  pub leads : (state p i a).role ≡ Leader
  pub term : (state p i a).term ≡ t

-- election safety: at most one leader in a term
abbrev pub HaveOneLeader : Params → World Message → Type 0
HaveOneLeader p w = (i j t : ℕ) (a b : List (Item Message)) → Leads p w i a t → Leads p w j b t → i ≡ j

-- log matching: two logs, at any times, with entries of one term at an index are equal up to that index
abbrev pub AreMatching : Params → World Message → Type 0
AreMatching p w = (i j k : ℕ) (a b : List (Item Message)) → Front a (w i) → Front b (w j) →
    k ≤ length (raft_log p i a) → k ≤ length (raft_log p j b) →
    term_at (raft_log p i a) k ≡ term_at (raft_log p j b) k →
    take k (raft_log p i a) ≡ take k (raft_log p j b)

-- leader completeness: what a node has committed is in the log of each leader of a later term
abbrev pub AreKept : Params → World Message → Type 0
AreKept p w = (i j t : ℕ) (a b : List (Item Message)) → Front a (w i) → Leads p w j b t → (state p i a).term < t →
    take (commit p i a) (raft_log p i a) ≡ take (commit p i a) (raft_log p j b)

-- ---- Batches

-- the node is the segment's leader and leads term 1
pub record IsByFirst (p : Params) (i : ℕ) (before : List (Item Message)) : Type 0 where
  pub own : i ≡ p.leader.0
  pub leads : (state p i before).role ≡ Leader
  pub term : (state p i before).term ≡ 1

-- the segment's leader accepted the batch at the slot that follows the prefix
pub record IsOwned (p : Params) (w : World Message) (front : List Entry) (b : Batch) : Type 0 where
  pub slot : Slot
  pub place : nth p.slots (filled front) ≡ Some slot
  pub taken : In {A = Slot × Batch} (slot, b) (accepts (w p.leader.0))

-- only the segment's leader, in term 1, accepts batches; and each batch in a log was accepted so
pub record AreByFirst (p : Params) (w : World Message) : Type 0 where
  pub accepted : (i : ℕ) (x : Item Message) (before : List (Item Message)) (a : Slot × Batch) →
      Front (x ∷ before) (w i) → x.made.accepted ≡ Some a → IsByFirst p i before
  pub owned : (i : ℕ) (a : List (Item Message)) (front : List Entry) (e : Entry) (rest : List Entry) (b : Batch) →
      Front a (w i) →
      raft_log p i a ≡ front ++ (e ∷ rest) → e.what ≡ Holds b → IsOwned p w front b

-- a node accepts at most one batch at a slot
-- rule: Raft: A node accepts one batch a slot
abbrev pub AreOnce : Params → World Message → Type 0
AreOnce p w = (i : ℕ) (s : Slot) (b c : Batch) → In {A = Slot × Batch} (s, b) (accepts (w i)) →
    In {A = Slot × Batch} (s, c) (accepts (w i)) → b ≡ c

-- ---- What is delivered

-- agreement: two nodes that deliver a slot deliver the same value
abbrev pub AreAgreed : Params → World Message → Type 0
AreAgreed p w = (i j s : ℕ) (x y : Value) → delivered raft p i (w i) s ≡ Some x →
    delivered raft p j (w j) s ≡ Some y → x ≡ y

-- for any two delivered batches, some node accepted both at their slots
abbrev pub HaveSharedAcceptor : Params → World Message → Type 0
HaveSharedAcceptor p w = (i j : ℕ) (s t : Slot) (b c : Batch) →
    delivered raft p i (w i) s.0 ≡ Some (Value_batch b) → delivered raft p j (w j) t.0 ≡ Some (Value_batch c) →
    SharedAcceptor p w s b t c

-- the segment's leader accepted each delivered batch at its slot
abbrev pub AreFromLeader : Params → World Message → Type 0
AreFromLeader p w = (i : ℕ) (s : Slot) (b : Batch) → delivered raft p i (w i) s.0 ≡ Some (Value_batch b) →
    In {A = Slot × Batch} (s, b) (accepts (w p.leader.0))
