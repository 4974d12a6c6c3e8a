-- The rules of Raft: what a replica's state becomes with one input, and what it sends. Each rule is one function: a
-- newer term, a cast, an Append, its reply, commitment, a vote request, a vote, and a timeout.
use Rattle.std.specs.Prelude.{ℕ, zero, suc, ◌+◌, ◌-◌, ◌==◌, ◌&&◌, ◌||◌, Bool, true, false, not, cond, ◌∷◌, ◌++◌, if◌then◌else◌}
use Rattle.std.specs.Prelude.{nat_lt, nat_le, max, min, List, [], length, drop, Option, Some, None}
use Rattle.iss_base.specs.Lists.{nth, set_at}
use Rattle.iss_base.specs.Quorum.{count_below}
use Rattle.iss_request.specs.declared.requests.Batch.{Batch}
use Rattle.iss_sb.specs.Calls.{is_slot}
use Rattle.iss_sb.specs.declared.effects.Input.{Input}
use Rattle.iss_sb.specs.declared.effects.Input.TheVariants.{Cast, Receive, Timeout}
use Rattle.iss_sb.specs.declared.effects.Params.{Params}
use Rattle.iss_sb.specs.declared.effects.To.{To}
use Rattle.iss_sb.specs.declared.effects.To.TheVariants.{One as To_one}
use Rattle.raft_wire.specs.declared.entries.Entry.{Entry}
use Rattle.iss_sb.specs.declared.content.Content.TheVariants.{Holds, Mark}
use Rattle.raft_wire.specs.declared.messages.Message.{Message}
use Rattle.raft_wire.specs.declared.messages.Message.TheVariants.{Append, Reply, AskVote, Vote}
use Rattle.sb_raft.specs.Logs.{entry, filled, fits_behind, last_term, merged, nils, stay, term_at, up_to_date}

-- ---- States

pub data Role : Type 0 where
  Follower : Role
  Candidate : Role
  Leader : Role

abbrev pub is_leader : Role → Bool
is_leader Follower = false
is_leader Candidate = false
is_leader Leader = true

abbrev pub is_candidate : Role → Bool
is_candidate Follower = false
is_candidate Candidate = true
is_candidate Leader = false

pub record State : Type 0 where
  pub term : ℕ
  -- whom it voted for in this term (Raft: votedFor)
  pub vote : Option ℕ
  pub role : Role
  pub log : List Entry
  pub commit : ℕ
  -- a leader's nextIndex and matchIndex of each other node
  pub next : ℕ → ℕ
  pub matched : ℕ → ℕ
  -- which nodes granted a candidate their vote, itself included
  pub granted : ℕ → Bool

-- the state after an input, and the messages sent, in order
pub record Step : Type 0 where
  pub state : State
  pub sends : List (To × Message)

-- term 1 needs no election: each node has voted for the segment's leader, which leads it
abbrev pub start : Params → ℕ → State
start p me = record {
  term = 1;
  vote = Some p.leader.0;
  role = cond (me == p.leader.0) Leader Follower;
  log = [];
  commit = 0;
  next = λ k. 1;
  matched = λ k. 0;
  granted = λ k. false;
}

-- nothing is sent
abbrev pub quiet : State → Step
quiet s = record { state = s; sends = [] }

abbrev pub to : ℕ → Message → To × Message
to k msg = (To_one (record { 0 = k }), msg)

-- one message to node k
abbrev pub answer : State → ℕ → Message → Step
answer s k msg = record { state = s; sends = to k msg ∷ [] }

-- the numbers below n except me, ascending
abbrev pub others : ℕ → ℕ → List ℕ
others me zero = []
others me (suc n) = others me n ++ cond (n == me) [] (n ∷ [])

-- a message to each of these nodes
abbrev pub to_each : (ℕ → Message) → List ℕ → List (To × Message)
to_each msg [] = []
to_each msg (k ∷ ks) = to k (msg k) ∷ to_each msg ks

-- the greatest number from low + 1 to k that passes the test, low if there is none
abbrev pub greatest : (ℕ → Bool) → ℕ → ℕ → ℕ
greatest test low zero = low
greatest test low (suc k) = if nat_lt low (suc k) && test (suc k) then suc k else greatest test low k

-- ---- AppendEntries: a leader sends each other node the entries from its nextIndex on, with the previous index and
-- term

-- rule: Raft: An Append has the entries behind an index, and the term of the entry there
abbrev pub append_behind : State → ℕ → Message
append_behind s previous = Append s.term previous (term_at s.log previous) s.commit (drop previous s.log)

abbrev pub append_to : State → ℕ → Message
append_to s k = append_behind s (s.next k - 1)

abbrev pub appends : Params → ℕ → State → List (To × Message)
appends p me s = to_each (append_to s) (others me p.setup.n)

-- ---- Committing: the greatest index of an entry of its own term that a quorum holds. A leader tells all others at
-- once

-- whether node k is known to hold the log up to index i
abbrev pub holds : ℕ → State → ℕ → ℕ → Bool
holds me s i k = (k == me) || nat_le i (s.matched k)

-- whether the entry at i is of the leader's term, and a quorum holds it
abbrev pub may_commit : Params → ℕ → State → ℕ → Bool
may_commit p me s i = (term_at s.log i == s.term) && nat_le p.setup.quorum (count_below (holds me s i) p.setup.n)

-- the leader sends the new commit index to all others
abbrev pub risen : Params → ℕ → State → List (To × Message) → Step
risen p me s sends = record { state = s; sends = sends ++ appends p me s }

-- the step with this commit index, if it is higher
abbrev pub with_commit : Params → ℕ → Step → ℕ → Step
with_commit p me made i =
    if nat_lt made.state.commit i then risen p me (record made.state { commit = i }) made.sends else made

-- the step, followed by committing
-- rule: Raft: A leader commits by counting an entry of its own term, and all entries before it
abbrev pub advanced : Params → ℕ → Step → Step
advanced p me made = with_commit p me made
    (greatest (may_commit p me made.state) made.state.commit (length made.state.log))

-- sending the log to all others, followed by committing
abbrev pub spread : Params → ℕ → State → Step
spread p me s = advanced p me (record { state = s; sends = appends p me s })

-- ---- A message of a higher term: the node becomes a follower in that term, and has voted for nobody in it

-- rule: Raft: A higher term makes a node a follower of that term, with no vote given in it
abbrev pub raised : State → ℕ → State
raised s t = if nat_lt s.term t then record s { term = t; vote = None; role = Follower } else s

-- ---- Casts: the leader of term 1 takes them in that term, each at the next slot

abbrev pub may_cast : Params → State → ℕ → Bool
may_cast p s slot = (is_leader s.role && (s.term == 1)) && is_slot slot (nth p.slots (filled s.log))

-- rule: Raft: The leader of the first term takes casts, each at the next slot
abbrev pub on_cast : Params → ℕ → State → ℕ → Batch → Step
on_cast p me s slot batch =
    if may_cast p s slot
    then spread p me (record s { log = s.log ++ entry s.term (Holds batch) ∷ [] })
    else quiet s

-- ---- AppendEntries: refused if the term is lower, or if the consistency check fails

abbrev pub log_limit : ℕ
log_limit = 65600

-- no committed entry is removed, and the log stays within its limit; otherwise there is no reply
-- rule: Raft: A log has at most 65,600 entries after an Append
abbrev pub may_merge : State → ℕ → List Entry → Bool
may_merge s previous es = nat_le s.commit (previous + stay (drop previous s.log) es) &&
    nat_le (length (merged s.log previous es)) log_limit

-- the log with the entries merged, committed up to the leader's commit index as far as they reach
-- rule: Raft: An Append commits only entries that it covers
abbrev pub appended : State → ℕ → ℕ → List Entry → State
appended s previous commit es =
    record s { log = merged s.log previous es; commit = max s.commit (min commit (previous + length es)) }

-- an Append of the node's own term
abbrev pub taken : State → ℕ → ℕ → ℕ → ℕ → List Entry → Step
taken s from previous previous_term commit es =
    if fits_behind s.log previous previous_term
    then (if may_merge s previous es
    then answer (appended s previous commit es) from (Reply s.term true (previous + length es)) else quiet s)
    else answer s from (Reply s.term false previous)

-- rule: Raft: An Append keeps committed entries and removes entries that differ in term
-- rule: Raft: An Append of a lower term is refused with the node's own term
abbrev pub on_append : State → ℕ → ℕ → ℕ → ℕ → ℕ → List Entry → Step
on_append s from term previous previous_term commit es =
    if term == s.term
    then taken (record s { role = Follower }) from previous previous_term commit es
    else answer s from (Reply s.term false previous)

-- ---- Replies of other nodes in the leader's term

-- node j holds the log up to index i
abbrev pub matched_at : State → ℕ → ℕ → State
matched_at s j i = record s { matched = set_at s.matched j i; next = set_at s.next j (i + 1) }

-- an ok within the log raises the matchIndex, followed by committing
-- rule: Raft: A follower's match index never decreases within a term
abbrev pub on_ok : Params → ℕ → State → ℕ → ℕ → Step
on_ok p me s from i =
    if nat_le i (length s.log) then advanced p me (quiet (matched_at s from (max (s.matched from) i))) else quiet s

-- a refusal of the last Append decrements nextIndex, and one more entry is sent
-- rule: Raft: After a refused Append the leader sends one entry more
abbrev pub on_not_ok : State → ℕ → ℕ → Step
on_not_ok s from i =
    if (i == s.next from - 1) && nat_le 1 i
    then answer (record s { next = set_at s.next from i }) from (append_behind s (i - 1))
    else quiet s

abbrev pub on_reply : Params → ℕ → State → ℕ → ℕ → Bool → ℕ → Step
on_reply p me s from term ok i =
    if (is_leader s.role && (term == s.term)) && not (from == me)
    then (if ok then on_ok p me s from i else on_not_ok s from i)
    else quiet s

-- ---- RequestVote: one vote a term, only for a candidate whose log is at least as up to date

-- whether the node has no other vote in this term
abbrev pub free_for : Option ℕ → ℕ → Bool
free_for None j = true
free_for (Some k) j = k == j

abbrev pub grants : State → ℕ → ℕ → ℕ → ℕ → Bool
grants s from term last last_term = (term == s.term) && (free_for s.vote from && up_to_date s.log last last_term)

-- rule: Raft: A node gives one vote a term, to a candidate whose log is up to date
abbrev pub on_ask : State → ℕ → ℕ → ℕ → ℕ → Step
on_ask s from term last last_term =
    if grants s from term last last_term
    then answer (record s { vote = Some from }) from (Vote s.term true)
    else answer s from (Vote s.term false)

-- ---- A candidate with the votes of a quorum becomes leader

-- a mark of the new term, and nil for each open slot
abbrev pub filling : Params → State → List Entry
filling p s = entry s.term Mark ∷ nils s.term (length p.slots - filled s.log)

-- nextIndex is the index after the old log
-- rule: Raft: A new leader fills the rest of its segment with a mark and nil entries
abbrev pub won : Params → State → State
won p s = record s { role = Leader; log = s.log ++ filling p s; next = λ k. length s.log + 1; matched = λ k. 0 }

-- the step of a candidate after a vote: it leads if a quorum granted it theirs
abbrev pub counted : Params → ℕ → State → List (To × Message) → Step
counted p me s sends =
    if nat_le p.setup.quorum (count_below s.granted p.setup.n)
    then advanced p me (record { state = won p s; sends = sends ++ appends p me (won p s) })
    else record { state = s; sends = sends }

abbrev pub on_vote : Params → ℕ → State → ℕ → ℕ → Bool → Step
on_vote p me s from term granted =
    if (is_candidate s.role && granted) && (term == s.term)
    then counted p me (record s { granted = set_at s.granted from true }) []
    else quiet s

-- ---- Timeouts: a leader sends its log again; another node becomes a candidate of the next term, if there is one

abbrev pub last_timed_term : ℕ
last_timed_term = 65535

-- it votes for itself
abbrev pub candidate : ℕ → State → State
candidate me s = record s { term = s.term + 1; vote = Some me; role = Candidate; granted = λ k. k == me }

-- RequestVote, with the last index and term
-- rule: Raft: A candidate asks for votes with the index and term of its last entry
abbrev pub ask_vote : State → ℕ → Message
ask_vote s k = AskVote s.term (length s.log) (last_term s.log)

abbrev pub stands_up : Params → ℕ → State → Step
stands_up p me s = counted p me s (to_each (ask_vote s) (others me p.setup.n))

-- rule: Raft: A timeout makes a node a candidate of the next term, up to the last term
-- rule: Raft: A leader that times out sends its log to all others again
abbrev pub on_timeout : Params → ℕ → State → Step
on_timeout p me s =
    if is_leader s.role
    then record { state = s; sends = appends p me s }
    else (if nat_lt s.term last_timed_term then stands_up p me (candidate me s) else quiet s)

-- ---- One input

-- the term of a message
abbrev pub term_of : Message → ℕ
term_of (Append term previous previous_term commit es) = term
term_of (Reply term ok i) = term
term_of (AskVote term last last_term) = term
term_of (Vote term granted) = term

abbrev pub on_message : Params → ℕ → State → ℕ → Message → Step
on_message p me s from (Append term previous previous_term commit es) =
    on_append (raised s term) from term previous previous_term commit es
on_message p me s from (Reply term ok i) = on_reply p me (raised s term) from term ok i
on_message p me s from (AskVote term last last_term) = on_ask (raised s term) from term last last_term
on_message p me s from (Vote term granted) = on_vote p me (raised s term) from term granted

abbrev pub step : Params → ℕ → State → Input Message → Step
step p me s (Cast slot batch) = on_cast p me s slot.0 batch
step p me s (Receive from msg) = on_message p me s from.0 msg
step p me s Timeout = on_timeout p me s
