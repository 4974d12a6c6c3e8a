-- When Raft's code refines a list of inputs: it holds the state that the list leads to. Each rule of the code does
-- what the definition of the same rule does, where indices fit the messages' fields, which holds for every list.
use Rattle.std.specs.Prelude.{◌≡◌, ◌<◌, ◌≤◌, ◌+◌, ◌-◌, ◌^◌, ◌==◌, ℕ, Bool, true, cond}
use Rattle.std.specs.Prelude.{min, List, [], ◌∷◌, length, take, drop, Option, Some, None, if◌then◌else◌}
use Rattle.iss_base.specs.Quorum.{count_below}
use Rattle.iss_request.specs.declared.ids.NodeId.{NodeId}
use Rattle.iss_request.specs.declared.ids.Slot.{Slot}
use Rattle.iss_request.specs.declared.requests.Batch.{Batch}
use Rattle.iss_request.specs.declared.requests.Value.{Value}
use Rattle.iss_sb.specs.declared.effects.Effects.{Effects}
use Rattle.iss_sb.specs.declared.effects.Params.{Params}
use Rattle.iss_sb.specs.declared.effects.To.{To}
use Rattle.iss_sb.specs.Calls.{AreToNodes}
use Rattle.iss_sb.specs.Evidence.{Item}
use Rattle.raft_wire.specs.declared.entries.Entry.{Entry}
use Rattle.raft_wire.specs.declared.messages.Message.{Message}
use Rattle.raft_wire.specs.declared.messages.Message.TheVariants.{Reply}
use Rattle.sb_raft.specs.declared.raft.Role.{Role as CodeRole}
use Rattle.sb_raft.specs.declared.raft.Role.TheVariants.{Follower as Role_follower, Candidate as Role_candidate, Leader as Role_leader}
use Rattle.sb_raft.specs.declared.raft.Raft.{Raft}
use Rattle.iss_sb.specs.Paired.{paired}
use Rattle.sb_raft.specs.Kept.{kept}
use Rattle.sb_raft.specs.Logs.{contents, filled}
use Rattle.sb_raft.specs.Raft.{state}
use Rattle.sb_raft.specs.Rules.{Candidate, Follower, Leader, Role, State, Step, answer, appended, holds, may_cast, may_merge, quiet, to}

abbrev pub role_of : CodeRole → Role
role_of Role_follower = Follower
role_of Role_candidate = Candidate
role_of Role_leader = Leader

-- the state that the code's value represents
abbrev pub held : Raft → State
held m = record {
  term = m.term;
  vote = m.vote;
  role = role_of m.part;
  log = m.log.entries;
  commit = m.log.commit;
  next = kept m.next;
  matched = kept m.matched;
  granted = kept m.granted;
}

-- the value refines the history
pub record Refines (m : Raft) (p : Params) (me : ℕ) (xs : List (Item Message)) : Type 0 where
  pub node : m.me.0 ≡ me
  pub state : held m ≡ state p me xs

-- ---- The effects of a rule

-- the slots that become filled by committed entries between two states, with their values
abbrev pub newly : Params → State → State → List (Slot × Value)
newly p s v = paired (drop (filled (take s.commit s.log)) p.slots) (contents (drop s.commit (take v.commit v.log)))

-- ---- Bounds, so that indices fit into the messages' fields

-- a step adds at most a mark and 64 nils
abbrev pub HasRoom : State → Type 0
HasRoom s = length s.log + 65 < 2 ^ 32

-- a leader's next and match indices are within its log
pub record IsLow (s : State) : Type 0 where
  pub room : HasRoom s
  pub next : s.role ≡ Leader → (k : ℕ) → s.next k - 1 ≤ length s.log
  pub matched : s.role ≡ Leader → (k : ℕ) → s.matched k ≤ length s.log

-- every index that this state can send fits its field
pub record Fits (s : State) : Type 0 where
  pub log : length s.log < 2 ^ 32
  pub next : (k : ℕ) → s.next k - 1 ≤ length s.log

-- ---- The effects of the code's functions

-- only these messages
pub record OnlySends (sends : List (To × Message)) (e : Effects Message) : Type 0 where
  pub sends_is : e.sends ≡ sends
  pub accepted : e.accepted ≡ None
  pub delivers : e.delivers ≡ []
  pub hashed : e.hashed ≡ []

-- only a Reply to node k, with the index if it fits its field
pub record IsReply (k term : ℕ) (ok : Bool) (index : ℕ) (e : Effects Message) : Type 0 where
  pub sends : index < 2 ^ 32 → e.sends ≡ to k (Reply term ok index) ∷ []
  pub addressed : (n : ℕ) → k < n → AreToNodes n e.sends
  pub accepted : e.accepted ≡ None
  pub delivers : e.delivers ≡ []
  pub hashed : e.hashed ≡ []

-- The code did what the model's step does, from state `from`. The state and the messages agree if `can` holds, the
-- bound on indices.
pub record Does (p : Params) (me : NodeId) (can : Type 0) (from : State) (new : Raft) (step : Step)
    (accepted : Option (Slot × Batch)) (e : Effects Message) : Type 0 where
  pub node : new.me ≡ me
  pub state : can → held new ≡ step.state
  pub sends : can → e.sends ≡ step.sends
  pub accepts : e.accepted ≡ accepted
  pub delivers : e.delivers ≡ newly p from (held new)
  pub hashed : e.hashed ≡ []
  pub addressed : AreToNodes p.setup.n e.sends

-- k as a list, empty if k is the node itself
abbrev pub other : ℕ → ℕ → List ℕ
other me k = cond (k == me) [] (k ∷ [])

-- the batch that is accepted with a cast
abbrev pub cast_of : Params → State → Slot → Batch → Option (Slot × Batch)
cast_of p s slot batch = if may_cast p s slot.0 then Some (slot, batch) else None

-- an Append that passed the consistency check
abbrev pub merges : State → ℕ → ℕ → ℕ → List Entry → Step
merges s from previous commit es =
    if may_merge s previous es
    then answer (appended s previous commit es) from (Reply s.term true (previous + length es)) else quiet s

-- ---- Up to which index a quorum holds the log

-- up to which index node k is known to hold the log
abbrev pub far : ℕ → State → ℕ → ℕ
far me s k = if k == me then length s.log else min (s.matched k) (length s.log)

-- a quorum is known to hold the log up to index i
abbrev pub IsHeld : Params → ℕ → State → ℕ → Type 0
IsHeld p me s i = p.setup.quorum ≤ count_below (holds me s i) p.setup.n

-- the greatest index up to which a quorum holds the log
pub record IsMost (p : Params) (me : ℕ) (s : State) (most : ℕ) : Type 0 where
  pub within : most ≤ length s.log
  pub held_so : 1 ≤ most → IsHeld p me s most
  pub greatest : (i : ℕ) → i ≤ length s.log → IsHeld p me s i → i ≤ most
