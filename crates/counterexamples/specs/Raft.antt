-- Raft without two of its rules (Ongaro and Ousterhout, 2014). A leader commits each entry that a quorum holds, of
-- whatever term. And a new leader appends its own entries not at its election but at its first timeout, so that its
-- Appends may end with an older entry. Either rule alone excludes what goes wrong. All other definitions are Raft's.
use Rattle.std.specs.Prelude.{ℕ, ◌+◌, ◌==◌, ◌&&◌, Bool, true, not, nat_lt, nat_le, max, List, [], ◌∷◌, ◌++◌, length, take, Option, Some, None, if◌then◌else◌}
use Rattle.iss_base.specs.Lists.{set_at}
use Rattle.iss_base.specs.Quorum.{count_below}
use Rattle.iss_request.specs.declared.ids.Slot.{Slot}
use Rattle.iss_request.specs.declared.requests.Batch.{Batch}
use Rattle.iss_request.specs.declared.requests.Value.{Value}
use Rattle.iss_sb.specs.declared.content.Content.TheVariants.{Holds}
use Rattle.iss_sb.specs.declared.effects.Input.{Input}
use Rattle.iss_sb.specs.declared.effects.Input.TheVariants.{Cast, Receive, Timeout}
use Rattle.iss_sb.specs.declared.effects.Params.{Params}
use Rattle.iss_sb.specs.declared.effects.To.{To}
use Rattle.iss_sb.specs.Evidence.{Item, Made, Module}
use Rattle.iss_sb.specs.Paired.{value_with}
use Rattle.raft_wire.specs.declared.messages.Message.{Message}
use Rattle.raft_wire.specs.declared.messages.Message.TheVariants.{Append, AskVote, Reply, Vote}
use Rattle.sb_raft.specs.Logs.{contents, entry, last_term}
use Rattle.sb_raft.specs.Raft.{raft}
use Rattle.sb_raft.specs.Rules.{Leader, State, Step, appends, ask_vote, candidate, filling, greatest, holds, is_candidate, is_leader, last_timed_term, matched_at, may_cast, on_append, on_ask, on_not_ok, others, quiet, raised, start, to_each, with_commit}

-- whether a quorum holds the entry at i, of whatever term it is
abbrev pub may_commit : Params → ℕ → State → ℕ → Bool
may_commit p me s i = nat_le p.setup.quorum (count_below (holds me s i) p.setup.n)

abbrev pub advanced : Params → ℕ → Step → Step
advanced p me made = with_commit p me made
    (greatest (may_commit p me made.state) made.state.commit (length made.state.log))

abbrev pub spread : Params → ℕ → State → Step
spread p me s = advanced p me (record { state = s; sends = appends p me s })

abbrev pub on_cast : Params → ℕ → State → ℕ → Batch → Step
on_cast p me s slot batch =
    if may_cast p s slot then spread p me (record s { log = s.log ++ entry s.term (Holds batch) ∷ [] }) else quiet s

abbrev pub on_ok : Params → ℕ → State → ℕ → ℕ → Step
on_ok p me s from i =
    if nat_le i (length s.log) then advanced p me (quiet (matched_at s from (max (s.matched from) i))) else quiet s

abbrev pub on_reply : Params → ℕ → State → ℕ → ℕ → Bool → ℕ → Step
on_reply p me s from term ok i =
    if (is_leader s.role && (term == s.term)) && not (from == me)
    then (if ok then on_ok p me s from i else on_not_ok s from i)
    else quiet s

-- ---- A new leader sends its log as it is; a leader that times out appends its own entries, unless they are there

abbrev pub elected : State → State
elected s = record s { role = Leader; next = λ k. length s.log + 1; matched = λ k. 0 }

abbrev pub with_own : Params → State → State
with_own p s = if last_term s.log == s.term then s else record s { log = s.log ++ filling p s }

abbrev pub counted : Params → ℕ → State → List (To × Message) → Step
counted p me s sends =
    if nat_le p.setup.quorum (count_below s.granted p.setup.n)
    then advanced p me (record { state = elected s; sends = sends ++ appends p me (elected s) })
    else record { state = s; sends = sends }

abbrev pub on_vote : Params → ℕ → State → ℕ → ℕ → Bool → Step
on_vote p me s from term granted =
    if (is_candidate s.role && granted) && (term == s.term)
    then counted p me (record s { granted = set_at s.granted from true }) []
    else quiet s

abbrev pub stands_up : Params → ℕ → State → Step
stands_up p me s = counted p me s (to_each (ask_vote s) (others me p.setup.n))

abbrev pub on_timeout : Params → ℕ → State → Step
on_timeout p me s =
    if is_leader s.role
    then spread p me (with_own p s)
    else (if nat_lt s.term last_timed_term then stands_up p me (candidate me s) else quiet s)

-- ---- The module

abbrev pub on_message : Params → ℕ → State → ℕ → Message → Step
on_message p me s from (Append term previous previous_term commit es) =
    on_append (raised s term) from term previous previous_term commit es
on_message p me s from (Reply term ok i) = on_reply p me (raised s term) from term ok i
on_message p me s from (AskVote term last last_term) = on_ask (raised s term) from term last last_term
on_message p me s from (Vote term granted) = on_vote p me (raised s term) from term granted

abbrev pub step : Params → ℕ → State → Input Message → Step
step p me s (Cast slot batch) = on_cast p me s slot.0 batch
step p me s (Receive from msg) = on_message p me s from.0 msg
step p me s Timeout = on_timeout p me s

abbrev pub state : Params → ℕ → List (Item Message) → State
state p me [] = start p me
state p me (x ∷ xs) = (step p me (state p me xs) x.input).state

abbrev pub asks : Params → ℕ → List (Item Message) → Input Message → Option (Slot × Batch)
asks p me xs (Cast slot batch) = if may_cast p (state p me xs) slot.0 then Some (slot, batch) else None
asks p me xs (Receive from msg) = None
asks p me xs Timeout = None

abbrev pub makes : Params → ℕ → List (Item Message) → Input Message → ℕ → Made Message
makes p me xs input leaf =
    record { sends = (step p me (state p me xs) input).sends; accepted = asks p me xs input; strings = []; used = 0 }

abbrev pub decided : Params → ℕ → List (Item Message) → ℕ → Option Value
decided p me xs s = value_with s p.slots (contents (take (state p me xs).commit (state p me xs).log))

-- Raft that commits by counting entries of older terms, before its leader appends its own
abbrev pub counting_older_terms : Module Message
counting_older_terms = record raft { asks = asks; makes = makes; decided = decided }
