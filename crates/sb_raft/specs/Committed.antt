-- How much of its log a replica has committed, restated without the rules' counters. It is the greatest index that a
-- leader told it, or whose entry was of the term that it led while f others had answered for it.
use Rattle.std.specs.Prelude.{◌≡◌, ◌≤◌, ℕ, ◌+◌, ◌==◌, ◌&&◌, ◌||◌, Bool, true, false, not, nat_le, min, List, [], ◌∷◌, length}
use Rattle.iss_base.specs.Lists.{In}
use Rattle.iss_base.specs.Quorum.{count_below}
use Rattle.iss_request.specs.declared.ids.NodeId.{NodeId}
use Rattle.iss_sb.specs.declared.effects.Input.{Input}
use Rattle.iss_sb.specs.declared.effects.Input.TheVariants.{Cast, Receive, Timeout}
use Rattle.iss_sb.specs.declared.effects.Params.{Params}
use Rattle.iss_sb.specs.declared.effects.To.{To}
use Rattle.iss_sb.specs.Evidence.{Item}
use Rattle.iss_sb.specs.Legal.{Front}
use Rattle.raft_wire.specs.declared.entries.Entry.{Entry}
use Rattle.raft_wire.specs.declared.messages.Message.{Message}
use Rattle.raft_wire.specs.declared.messages.Message.TheVariants.{Append, Reply, AskVote, Vote}
use Rattle.sb_raft.specs.Logs.{term_at}
use Rattle.sb_raft.specs.Raft.{makes, raft_log, state}
use Rattle.sb_raft.specs.Rules.{Leader, is_leader, to}

-- ---- Replies

-- node k's ok Reply of term t, with an index from i to the log's length
abbrev pub is_answer : ℕ → ℕ → ℕ → ℕ → Input Message → Bool
is_answer t i k long (Cast slot batch) = false
is_answer t i k long (Receive from (Append term previous previous_term commit es)) = false
is_answer t i k long (Receive from (Reply term ok index)) = ok &&
    ((from.0 == k) && ((term == t) && (nat_le i index && nat_le index long)))
is_answer t i k long (Receive from (AskVote term last last_term)) = false
is_answer t i k long (Receive from (Vote term granted)) = false
is_answer t i k long Timeout = false

-- whether the node leads term t after this history
abbrev pub leads_term : Params → ℕ → List (Item Message) → ℕ → Bool
leads_term p me xs t = is_leader (state p me xs).role && ((state p me xs).term == t)

-- whether such a Reply was received while the node led the term
abbrev pub has_answered : Params → ℕ → ℕ → ℕ → List (Item Message) → ℕ → Bool
has_answered p me t i [] k = false
has_answered p me t i (x ∷ xs) k = (leads_term p me xs t && is_answer t i k (length (raft_log p me xs)) x.input) ||
    has_answered p me t i xs k

-- the same for a node other than me
abbrev pub another_answered : Params → ℕ → ℕ → ℕ → List (Item Message) → ℕ → Bool
another_answered p me t i xs k = not (k == me) && has_answered p me t i xs k

-- ---- What may be committed

-- The node answered an Append with ok. Then i is the leader's commit index, but at most the last index that the Append
-- covers.
pub record IsTold (p : Params) (me : ℕ) (xs : List (Item Message)) (i : ℕ) : Type 0 where
  pub item : Item Message
  pub before : List (Item Message)
  pub moment : Front (item ∷ before) xs
  pub from : NodeId
  pub term : ℕ
  pub previous : ℕ
  pub previous_term : ℕ
  pub commit : ℕ
  pub entries : List Entry
  pub came : item.input ≡ Receive from (Append term previous previous_term commit entries)
  pub answered : In {A = To × Message} (to from.0 (Reply term true (previous + length entries)))
      (makes p me before item.input item.leaf).sends
  pub is : i ≡ min commit (previous + length entries)

-- At some time the node led a term, entry i of its log was of that term, and f other nodes had replied ok at or above
-- i.
pub record IsCounted (p : Params) (me : ℕ) (xs : List (Item Message)) (i : ℕ) : Type 0 where
  pub now : List (Item Message)
  pub moment : Front now xs
  pub leads : (state p me now).role ≡ Leader
  pub some : 1 ≤ i
  pub within : i ≤ length (raft_log p me now)
  pub own : term_at (raft_log p me now) i ≡ (state p me now).term
  pub others : p.setup.f ≤ count_below (another_answered p me (state p me now).term i now) p.setup.n

-- index 0, and the indices of both kinds
pub data MayBeCommitted (p : Params) (me : ℕ) (xs : List (Item Message)) : ℕ → Type 0 where
  nothing : MayBeCommitted p me xs 0
  told : {i : ℕ} → IsTold p me xs i → MayBeCommitted p me xs i
  counted : {i : ℕ} → IsCounted p me xs i → MayBeCommitted p me xs i

-- the greatest of these
-- rule: Raft: The commit index is the greatest that may be committed
pub record IsCommitted (p : Params) (me : ℕ) (xs : List (Item Message)) (c : ℕ) : Type 0 where
  pub may : MayBeCommitted p me xs c
  pub most : (i : ℕ) → MayBeCommitted p me xs i → i ≤ c
