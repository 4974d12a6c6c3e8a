-- Worked examples of Raft: three nodes; node 0 leads the slots 0 and 3.
use Rattle.std.proofs.Common.{◌≡◌, ℕ, suc, ◌+◌, Bool, true, false, if◌then◌else◌, List, [], ◌∷◌, length, Some, None, refl, ap, ◌∙◌}
use Rattle.std.specs.Prelude.{nat_le, replicate}
use Rattle.iss_keys.specs.Directories.{directory_of}
use Rattle.iss_request.specs.declared.ids.NodeId.{NodeId}
use Rattle.iss_request.specs.declared.ids.Slot.{Slot}
use Rattle.iss_request.specs.declared.requests.Batch.{Batch}
use Rattle.iss_request.specs.declared.requests.Value.TheVariants.{Nil as Value_nil, Batch as Value_batch}
use Rattle.iss_request.specs.declared.setups.Kind.TheVariants.{Stopping}
use Rattle.iss_request.specs.declared.setups.Policy.TheVariants.{Simple}
use Rattle.iss_request.specs.declared.setups.Setup.{Setup}
use Rattle.iss_sb.specs.declared.effects.Input.{Input}
use Rattle.iss_sb.specs.declared.effects.Input.TheVariants.{Cast, Receive, Timeout}
use Rattle.iss_sb.specs.declared.effects.Params.{Params}
use Rattle.iss_sb.specs.declared.effects.To.{To}
use Rattle.iss_sb.specs.Evidence.{Item, and_then, delivered}
use Rattle.raft_wire.specs.declared.entries.Entry.{Entry}
use Rattle.iss_sb.specs.declared.content.Content.TheVariants.{Nil, Holds, Mark}
use Rattle.raft_wire.specs.declared.messages.Message.{Message}
use Rattle.raft_wire.specs.declared.messages.Message.TheVariants.{Append, Reply, AskVote, Vote}
use Rattle.sb_raft.specs.Raft.{asks, raft, makes, state}
use Rattle.sb_raft.specs.Logs.{entry}
use Rattle.sb_raft.specs.Rules.{Step, answer, appended, quiet, start, to}

abbrev pub slot : ℕ → Slot
slot n = record { 0 = n }

abbrev pub node : ℕ → NodeId
node n = record { 0 = n }

abbrev pub setup : Setup
setup = record {
  version = 1;
  «module» = 2;
  f = 1;
  epoch = 8;
  buckets = 4;
  batch = 4;
  window = 4;
  policy = Simple;
  clients = 1;
  keys = 4;
  faulty = [];
  n = 3;
  quorum = 2;
  kind = Stopping;
  tag = replicate 32 7;
}

abbrev pub p : Params
p = record { setup = setup; epoch = record { 0 = 2 }; leader = node 0; slots = slot 0 ∷ slot 3 ∷ []; directory = directory_of 3 1 4 }

-- the empty batch
abbrev pub b : Batch
b = []

abbrev pub take_in : ℕ → List (Item Message) → Input Message → List (Item Message)
take_in me xs input = and_then raft p me xs input 0

abbrev pub sends : ℕ → List (Item Message) → Input Message → List (To × Message)
sends me xs input = (makes p me xs input 0).sends

abbrev pub tell : ℕ → Message → Input Message
tell k msg = Receive (node k) msg

-- ---- A cast, replies, and the commit

abbrev pub cast : List (Item Message)
cast = take_in 0 [] (Cast (slot 0) b)

abbrev pub e1 : Entry
e1 = entry 1 (Holds b)

casts : sends 0 [] (Cast (slot 0) b) ≡ to 1 (Append 1 0 0 0 (e1 ∷ [])) ∷ to 2 (Append 1 0 0 0 (e1 ∷ [])) ∷ []
casts = refl

casts_in_order : asks p 0 [] (Cast (slot 3) b) ≡ None
casts_in_order = refl

casts_once : asks p 0 cast (Cast (slot 0) b) ≡ None
casts_once = refl

casts_the_next : asks p 0 cast (Cast (slot 3) b) ≡ Some (slot 3, b)
casts_the_next = refl

casts_none : asks p 1 [] (Cast (slot 0) b) ≡ None
casts_none = refl

abbrev pub copied : List (Item Message)
copied = take_in 1 [] (tell 0 (Append 1 0 0 0 (e1 ∷ [])))

copies : sends 1 [] (tell 0 (Append 1 0 0 0 (e1 ∷ []))) ≡ to 0 (Reply 1 true 1) ∷ []
copies = refl

-- one reply makes a quorum with the leader, which commits and tells both others
commits : sends 0 cast (tell 1 (Reply 1 true 1)) ≡ to 1 (Append 1 1 1 1 []) ∷ to 2 (Append 1 0 0 1 (e1 ∷ [])) ∷ []
commits = refl

-- its own reply, one after the log's end, and a repeated one change nothing
no_reply_of_its_own : sends 0 cast (tell 0 (Reply 1 true 1)) ≡ []
no_reply_of_its_own = refl

no_reply_past_the_log : sends 0 cast (tell 1 (Reply 1 true 2)) ≡ []
no_reply_past_the_log = refl

abbrev pub committed : List (Item Message)
committed = take_in 0 cast (tell 1 (Reply 1 true 1))

not_twice : sends 0 committed (tell 2 (Reply 1 true 1)) ≡ []
not_twice = refl

not_yet : delivered raft p 0 cast 0 ≡ None
not_yet = refl

delivers : delivered raft p 0 committed 0 ≡ Some (Value_batch b)
delivers = refl

delivers_at_a_follower : delivered raft p 1 (take_in 1 copied (tell 0 (Append 1 1 1 1 []))) 0 ≡ Some (Value_batch b)
delivers_at_a_follower = refl

-- a commit index above what the Append covers is not taken
commits_what_it_has : (state p 1 (take_in 1 copied (tell 0 (Append 1 0 0 7 [])))).commit ≡ 0
commits_what_it_has = refl

-- ---- A gap: the leader sends one more entry after each refusal

gap : sends 2 [] (tell 0 (Append 1 1 1 1 [])) ≡ to 0 (Reply 1 false 1) ∷ []
gap = refl

front : sends 2 [] (tell 0 (Append 1 0 5 0 [])) ≡ to 0 (Reply 1 false 0) ∷ []
front = refl

steps_back : sends 0 committed (tell 1 (Reply 1 false 1)) ≡ to 1 (Append 1 0 0 1 (e1 ∷ [])) ∷ []
steps_back = refl

no_step_elsewhere : sends 0 committed (tell 2 (Reply 1 false 1)) ≡ []
no_step_elsewhere = refl

-- ---- An election: node 1 has the entry and becomes a candidate

abbrev pub stood : List (Item Message)
stood = take_in 1 copied Timeout

asks_for_votes : sends 1 copied Timeout ≡ to 0 (AskVote 2 1 1) ∷ to 2 (AskVote 2 1 1) ∷ []
asks_for_votes = refl

votes : sends 2 [] (tell 1 (AskVote 2 1 1)) ≡ to 1 (Vote 2 true) ∷ []
votes = refl

votes_once : sends 2 (take_in 2 [] (tell 1 (AskVote 2 1 1))) (tell 0 (AskVote 2 5 1)) ≡ to 0 (Vote 2 false) ∷ []
votes_once = refl

not_for_the_shorter : sends 0 cast (tell 2 (AskVote 2 0 0)) ≡ to 2 (Vote 2 false) ∷ []
not_for_the_shorter = refl

not_in_the_past : sends 1 stood (tell 2 (AskVote 1 9 9)) ≡ to 2 (Vote 2 false) ∷ []
not_in_the_past = refl

abbrev pub led : List (Item Message)
led = take_in 1 stood (tell 2 (Vote 2 true))

abbrev pub log2 : List Entry
log2 = e1 ∷ entry 2 Mark ∷ entry 2 Nil ∷ []

-- a mark, and nil for the open slot; nextIndex is from before
wins : sends 1 stood (tell 2 (Vote 2 true)) ≡ to 0 (Append 2 1 1 0 (entry 2 Mark ∷ entry 2 Nil ∷ [])) ∷ to 2 (Append 2 1 1 0 (entry 2 Mark ∷ entry 2 Nil ∷ [])) ∷ []
wins = refl

wins_log : (state p 1 led).log ≡ log2
wins_log = refl

no_vote_of_the_past : sends 1 stood (tell 2 (Vote 1 true)) ≡ []
no_vote_of_the_past = refl

-- an entry of an older term is not committed by counting
old_by_counting : (state p 1 (take_in 1 led (tell 2 (Reply 2 true 1)))).commit ≡ 0
old_by_counting = refl

new_by_counting : (state p 1 (take_in 1 led (tell 2 (Reply 2 true 3)))).commit ≡ 3
new_by_counting = refl

fills_with_nil : delivered raft p 1 (take_in 1 led (tell 2 (Reply 2 true 3))) 3 ≡ Some Value_nil
fills_with_nil = refl

keeps_the_batch : delivered raft p 1 (take_in 1 led (tell 2 (Reply 2 true 3))) 0 ≡ Some (Value_batch b)
keeps_the_batch = refl

says_again : sends 1 led Timeout ≡ to 0 (Append 2 1 1 0 (entry 2 Mark ∷ entry 2 Nil ∷ [])) ∷ to 2 (Append 2 1 1 0 (entry 2 Mark ∷ entry 2 Nil ∷ [])) ∷ []
says_again = refl

-- the leader of term 1 takes over the higher term, and takes no more casts
no_cast_later : asks p 0 (take_in 0 cast (tell 1 (AskVote 2 1 1))) (Cast (slot 3) b) ≡ None
no_cast_later = refl

-- an Append of a lower term
of_the_past : sends 2 (take_in 2 [] (tell 1 (AskVote 2 1 1))) (tell 0 (Append 1 4 1 0 [])) ≡ to 0 (Reply 2 false 4) ∷ []
of_the_past = refl

-- ---- An Append that would remove a committed entry: no reply, but the term is taken over

abbrev pub silent : List (Item Message)
silent = take_in 0 committed (tell 2 (Append 3 0 0 0 (entry 3 Mark ∷ [])))

no_answer : sends 0 committed (tell 2 (Append 3 0 0 0 (entry 3 Mark ∷ []))) ≡ []
no_answer = refl

same_log : (state p 0 silent).log ≡ e1 ∷ []
same_log = refl

same_commit : (state p 0 silent).commit ≡ 1
same_commit = refl

term_taken : (state p 0 silent).term ≡ 3
term_taken = refl

no_leader_more : sends 0 silent Timeout ≡ to 1 (AskVote 4 1 1) ∷ to 2 (AskVote 4 1 1) ∷ []
no_leader_more = refl

-- entries that differ in term are removed, if they are not committed
removes : (state p 0 (take_in 0 cast (tell 2 (Append 3 0 0 0 (entry 3 Mark ∷ []))))).log ≡ entry 3 Mark ∷ []
removes = refl

-- a late Append removes nothing
stays : (state p 1 (take_in 1 led (tell 2 (Append 3 0 0 0 (e1 ∷ []))))).log ≡ log2
stays = refl

-- ---- Log repair: node 2 has nothing and refuses; it gets one more entry, takes all, and the leader commits

abbrev pub refused : List (Item Message)
refused = take_in 1 led (tell 2 (Reply 2 false 1))

refuses : sends 2 [] (tell 1 (Append 2 1 1 0 (entry 2 Mark ∷ entry 2 Nil ∷ []))) ≡ to 1 (Reply 2 false 1) ∷ []
refuses = refl

sends_one_more : sends 1 led (tell 2 (Reply 2 false 1)) ≡ to 2 (Append 2 0 0 0 log2) ∷ []
sends_one_more = refl

-- a repeated refusal, which is not for the last Append, and one of a lower term
refused_once : (sends 1 refused (tell 2 (Reply 2 false 1)) ≡ []) × (sends 1 led (tell 2 (Reply 1 false 1)) ≡ [])
refused_once = (refl, refl)

abbrev pub repaired : List (Item Message)
repaired = take_in 2 [] (tell 1 (Append 2 0 0 0 log2))

repairs : (state p 2 repaired).log ≡ log2
repairs = refl

says_so : sends 2 [] (tell 1 (Append 2 0 0 0 log2)) ≡ to 1 (Reply 2 true 3) ∷ []
says_so = refl

commits_repaired : sends 1 refused (tell 2 (Reply 2 true 3)) ≡ to 0 (Append 2 1 1 3 (entry 2 Mark ∷ entry 2 Nil ∷ [])) ∷ to 2 (Append 2 3 2 3 []) ∷ []
commits_repaired = refl

-- at node 0, whose second cast is at the index of the mark, the cast is removed
abbrev pub cast_twice : List (Item Message)
cast_twice = take_in 0 cast (Cast (slot 3) b)

conflict : (state p 0 cast_twice).log ≡ e1 ∷ (entry 1 (Holds b) ∷ [])
conflict = refl

removed : (state p 0 (take_in 0 cast_twice (tell 1 (Append 2 1 1 0 (entry 2 Mark ∷ entry 2 Nil ∷ []))))).log ≡ log2
removed = refl

-- ---- The last term: a timeout changes nothing in it, and leads to it from the term before

abbrev pub at_term : ℕ → List (Item Message)
at_term t = take_in 2 [] (tell 1 (AskVote t 0 0))

last_term_stays : (sends 2 (at_term 65535) Timeout ≡ []) × ((state p 2 (take_in 2 (at_term 65535) Timeout)).term ≡ 65535)
last_term_stays = (refl, refl)

last_term_comes : sends 2 (at_term 65534) Timeout ≡ to 0 (AskVote 65535 0 0) ∷ to 1 (AskVote 65535 0 0) ∷ []
last_term_comes = refl

-- ---- A single node commits its casts and wins elections at once

abbrev pub alone : Params
alone = record p { setup = record setup { f = 0; n = 1; quorum = 1 } }

commits_at_once : delivered raft alone 0 (and_then raft alone 0 [] (Cast (slot 0) b) 0) 0 ≡ Some (Value_batch b)
commits_at_once = refl

-- ---- The limit of 65,600 entries: an Append of that many is taken, one more has no reply

abbrev pub many : Entry → List Entry → Input Message
many e es = tell 0 (Append 1 0 0 0 (e ∷ es))

-- what node 2 does with it, by whether it is within the limit
abbrev made : Entry → List Entry → Bool → Step
made e es short = if short then answer (appended (start p 2) 0 0 (e ∷ es)) 0 (Reply 1 true (0 + suc (length es))) else quiet (start p 2)

abbrev short : ℕ → Bool
short n = nat_le (suc n) 65600

takes_so_many : (e : Entry) (es : List Entry) → length es ≡ 65599 → sends 2 [] (many e es) ≡ to 0 (Reply 1 true 65600) ∷ []
takes_so_many e es h = ap (λ (t : Bool). (made e es t).sends) (ap short h) ∙ ap (λ (n : ℕ). to 0 (Reply 1 true (0 + suc n)) ∷ []) h

no_more : (e : Entry) (es : List Entry) → length es ≡ 65600 → sends 2 [] (many e es) ≡ []
no_more e es h = ap (λ (t : Bool). (made e es t).sends) (ap short h)

log_stays : (e : Entry) (es : List Entry) → length es ≡ 65600 → (state p 2 (take_in 2 [] (many e es))).log ≡ []
log_stays e es h = ap (λ (t : Bool). (made e es t).state.log) (ap short h)
