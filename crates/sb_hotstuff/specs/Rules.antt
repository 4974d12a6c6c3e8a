-- The rules of HotStuff (basic HotStuff, Yin and others, 2019). A view is a round and a turn in it. Each rule is a
-- test and what it changes: a cast, a proposal that is safe against the lock, certificates of the three phases, the
-- end of a round, and the leader's votes and new-view messages. An input leads to at most one proposal: the next turn
-- once the last one has its quorums, or a new round's first on the best certificate.
use Rattle.std.specs.Prelude.{ℕ, suc, ◌+◌, ◌*◌, ◌==◌, ◌&&◌, ◌||◌, Bool, true, false, not, nat_lt, nat_le, List, [], ◌∷◌, ◌++◌, length, Option, Some, None, is_some, if◌then◌else◌}
use Rattle.iss_base.specs.Lists.{nth, same_bytes}
use Rattle.iss_request.specs.declared.requests.Batch.{Batch}
use Rattle.iss_sb.specs.Calls.{is_slot}
use Rattle.iss_sb.specs.declared.effects.Input.{Input}
use Rattle.iss_sb.specs.declared.effects.Input.TheVariants.{Cast, Receive, Timeout}
use Rattle.iss_sb.specs.declared.effects.Params.{Params}
use Rattle.iss_sb.specs.declared.content.Content.{Content}
use Rattle.iss_sb.specs.declared.content.Content.TheVariants.{Nil, Holds, Mark}
use Rattle.hs_tree.specs.declared.certificates.Certificate.{Certificate}
use Rattle.hs_tree.specs.declared.certificates.Certificate.TheVariants.{Root, Votes}
use Rattle.hs_tree.specs.declared.messages.Message.{Message}
use Rattle.hs_tree.specs.declared.messages.Body.{Body}
use Rattle.hs_tree.specs.declared.messages.Body.TheVariants.{NewView, Prepare, PreCommit, Commit, Decide, Vote}
use Rattle.hs_tree.specs.Certificates.{digest_of, is_phase, is_quorum, view_of}
use Rattle.hs_tree.specs.Statements as Statements
use Rattle.hs_tree.specs.Tree.{Node, basic, branch, extends, filled, is_known, weight}
use Rattle.hs_views.specs.Views.{round_of, turn_of, leader_of, Turn, is_own_turn, News, news_of, all_news, best, Kept, vote_of, votes_of}

-- ---- Views: a view is a round and a turn in it, view = round * 65536 + turn. Proposals have turns from 1 on

-- the digest of the node that the proposal is for
abbrev pub node_digest : Params → ℕ → Content → Certificate → List ℕ
node_digest p view what just = Statements.node_digest basic p view what just

-- a valid quorum certificate: exactly a quorum's votes for this phase in this view, which has a turn
-- rule: HotStuff: A certificate has the votes of exactly a quorum
abbrev pub is_good : Params → ℕ → ℕ → Certificate → Bool
is_good p phase view c = nat_le 1 (turn_of view) && is_quorum p.setup.quorum phase view c

-- a valid justification (HotStuff: justify): the root's certificate, or a prepareQC of an earlier view
abbrev pub is_just : Params → ℕ → Certificate → Bool
is_just p view Root = true
is_just p view (Votes w q d votes) = is_good p 1 w (Votes w q d votes) && nat_lt w view

-- ---- A replica's state

pub record State : Type 0 where
  pub view : ℕ
  pub tree : List Node
  -- the highest prepareQC, and the lock, which is a precommitQC (HotStuff: lockedQC)
  pub high : Certificate
  pub lock : Certificate
  -- whether it cast its pre-commit vote and its commit vote in this view
  pub second : Bool
  pub third : Bool
  -- A leader's batches, oldest first; then its turns, and the votes and NewView messages received, all newest first.
  pub casts : List Batch
  pub turns : List Turn
  pub votes : List Kept
  pub news : List News

abbrev pub start : State
start = record {
  view = 0;
  tree = [];
  high = Root;
  lock = Root;
  second = false;
  third = false;
  casts = [];
  turns = [];
  votes = [];
  news = [];
}

-- ---- Votes that a leader counts: each replica's first for a phase of a turn, up to a quorum

-- the quorum certificate of the votes received
abbrev pub certificate : Params → State → ℕ → ℕ → List ℕ → Certificate
certificate p s phase view d = Votes view phase d (votes_of p.setup.n s.votes phase view d)

-- whether exactly a quorum's votes were received
abbrev pub is_reached : Params → State → ℕ → ℕ → List ℕ → Bool
is_reached p s phase view d = length (votes_of p.setup.n s.votes phase view d) == p.setup.quorum

-- whether the vote is counted: for a turn of its own, the sender's first, and below a quorum
abbrev pub keeps_vote : Params → State → ℕ → ℕ → ℕ → List ℕ → Bool
keeps_vote p s from phase view d =
    (is_phase basic.phases phase && is_own_turn s.turns view d) &&
    (not (is_some (vote_of s.votes phase view d from)) &&
    nat_lt (length (votes_of p.setup.n s.votes phase view d)) p.setup.quorum)

abbrev pub with_vote : State → ℕ → ℕ → ℕ → List ℕ → List ℕ → State
with_vote s from phase view d sig =
    record s { votes = record { by = from; phase = phase; view = view; digest = d; sig = sig } ∷ s.votes }

-- ---- NewView messages that a leader counts: each replica's first valid one for a round that it leads, up to a quorum

-- whether the NewView message is counted
abbrev pub keeps_news : Params → ℕ → State → ℕ → ℕ → Certificate → Bool
keeps_news p me s from round high =
    ((nat_le 1 round && (me == leader_of p round)) && is_just p (round * 65536) high) &&
    (not (is_some (news_of s.news round from)) && nat_lt (length (all_news p.setup.n s.news round)) p.setup.quorum)

abbrev pub with_news : State → ℕ → ℕ → Certificate → State
with_news s from round high = record s { news = record { by = from; round = round; high = high } ∷ s.news }

-- ---- A cast: at the segment's leader, in round 0, at the next slot

abbrev pub may_cast : Params → ℕ → State → ℕ → Bool
may_cast p me s slot = ((me == p.leader.0) && (round_of s.view == 0)) && is_slot slot (nth p.slots (length s.casts))

abbrev pub with_cast : State → Batch → State
with_cast s b = record s { casts = s.casts ++ b ∷ [] }

-- ---- A proposal

-- HotStuff's safeNode: the node extends the locked one (safety rule), or its justification is above the lock (liveness
-- rule).
-- rule: HotStuff: A proposal is safe if it extends the lock or its certificate is above the lock
abbrev pub is_safe : Params → State → ℕ → Content → Certificate → Bool
is_safe p s view what just =
    (same_bytes (node_digest p view what just) (digest_of s.lock) ||
    extends s.tree (digest_of just) (digest_of s.lock)) ||
    nat_lt (view_of s.lock) (view_of just)

-- What may follow a branch that fills this many slots. In round 0 a batch; in later rounds nil, and a mark once all
-- slots are filled.
-- rule: HotStuff: Batches are proposed in round 0 only; later rounds propose nil, then marks
abbrev pub is_allowed : Params → ℕ → ℕ → Content → Bool
is_allowed p round slots Nil = nat_le 1 round && nat_lt slots (length p.slots)
is_allowed p round slots (Holds b) = (round == 0) && nat_lt slots (length p.slots)
is_allowed p round slots Mark = nat_le 1 round && not (nat_lt slots (length p.slots))

-- whether the proposal is by the leader of its view, in a view above the replica's own
-- rule: HotStuff: A proposal is taken only in a view above the replica's own
abbrev pub is_timely : Params → State → ℕ → ℕ → Bool
is_timely p s from view = (from == leader_of p (round_of view)) && (nat_lt s.view view && nat_le 1 (turn_of view))

-- how many slots the branch of the justification's node fills
abbrev pub slots_below : State → Certificate → ℕ
slots_below s just = filled (branch s.tree (digest_of just))

-- whether the proposal is taken and gets a prepare vote
abbrev pub may_prepare : Params → State → ℕ → ℕ → Content → Certificate → Bool
may_prepare p s from view what just =
    (is_timely p s from view && (is_just p view just && is_known s.tree (digest_of just))) &&
    (is_safe p s view what just && is_allowed p (round_of view) (slots_below s just) what)

-- the node is now known, in a new view without pre-commit and commit votes
abbrev pub with_node : Params → State → ℕ → Content → Certificate → State
with_node p s view what just = record s {
  view = view;
  tree = record {
    view = view;
    digest = node_digest p view what just;
    from = view_of just;
    parent = digest_of just;
    what = what;
  } ∷ s.tree;
  second = false;
  third = false;
}

-- ---- Certificates of the own view, for a known node: a prepareQC becomes the highest, a precommitQC the lock

abbrev pub is_shown : Params → State → ℕ → ℕ → Certificate → Bool
is_shown p s phase view shown = (is_good p phase view shown && (view == s.view)) && is_known s.tree (digest_of shown)

abbrev pub may_second : Params → State → ℕ → Certificate → Bool
may_second p s view shown = is_shown p s 1 view shown && not s.second

abbrev pub may_third : Params → State → ℕ → Certificate → Bool
may_third p s view shown = is_shown p s 2 view shown && not s.third

-- ---- A timeout enters the next round, unless this is the last one

abbrev pub may_end : State → Bool
may_end s = nat_lt (round_of s.view) 65535

abbrev pub with_round : State → State
with_round s = record s { view = suc (round_of s.view) * 65536; second = false; third = false }

-- ---- The state after an input, without the turn that it triggers

-- rule: HotStuff: Only a certificate of the second phase becomes the lock, which never decreases
abbrev pub heard : Params → ℕ → State → ℕ → Body → List ℕ → State
heard p me s from (NewView round high) sig =
    if keeps_news p me s from round high then with_news s from round high else s
heard p me s from (Prepare view what just) sig =
    if may_prepare p s from view what just then with_node p s view what just else s
heard p me s from (PreCommit view shown) sig =
    if may_second p s view shown then record s { high = shown; second = true } else s
heard p me s from (Commit view shown) sig =
    if may_third p s view shown then record s { lock = shown; third = true } else s
heard p me s from (Decide view shown) sig = s
heard p me s from (Vote phase view d) sig =
    if keeps_vote p s from phase view d then with_vote s from phase view d sig else s

abbrev pub kept : Params → ℕ → State → Input Message → State
kept p me s (Cast slot batch) = if may_cast p me s slot.0 then with_cast s batch else s
kept p me s (Receive from msg) = heard p me s from.0 msg.body msg.sig
kept p me s Timeout = if may_end s then with_round s else s

-- ---- The leader's next turn, which extends its last one by that one's prepareQC

abbrev pub turn : Params → ℕ → Certificate → Content → ℕ → Turn
turn p view just what slots =
    record { view = view; digest = node_digest p view what just; just = just; what = what; slots = weight what + slots }

-- the turn that proposes this batch, if there is one
abbrev pub cast_turn : Params → ℕ → Certificate → ℕ → Option Batch → Option Turn
cast_turn p view just slots None = None
cast_turn p view just slots (Some b) = Some (turn p view just (Holds b) slots)

-- the turn's prepareQC and commitQC were broadcast, and the replica is in no later round
abbrev pub is_ready : Params → State → Turn → Bool
is_ready p s t = (is_reached p s 1 t.view t.digest && is_reached p s basic.phases t.view t.digest) &&
    nat_le (round_of s.view) (round_of t.view)

-- In round 0 turn k proposed cast k - 1, so the next cast is proposed, if there is one. In later rounds nil is proposed
-- until the branch is full.
abbrev pub turn_after : Params → State → Turn → Option Turn
turn_after p s t =
    if round_of t.view == 0
    then cast_turn p (suc t.view) (certificate p s 1 t.view t.digest) t.slots (nth s.casts t.view) else
    (if nat_lt t.slots (length p.slots)
    then Some (turn p (suc t.view) (certificate p s 1 t.view t.digest) Nil t.slots) else None)

-- turns are listed newest first; the first turn of round 0 needs no predecessor
-- rule: HotStuff: The next turn extends the last one, once its first and last quorum were shown
abbrev pub next_turn : Params → State → List Turn → Option Turn
next_turn p s [] = if round_of s.view == 0 then cast_turn p 1 Root 0 (nth s.casts 0) else None
next_turn p s (t ∷ ts) = if is_ready p s t then turn_after p s t else None

-- ---- The first turn of a round, on the highest certificate of a quorum of NewView messages

-- nil if a slot is open, else a mark
abbrev pub nil_or_mark : Params → ℕ → Content
nil_or_mark p slots = if nat_lt slots (length p.slots) then Nil else Mark

-- the turn on this certificate, if its node is known
abbrev pub turn_on : Params → State → ℕ → Certificate → Option Turn
turn_on p s round high =
    if is_known s.tree (digest_of high)
    then Some (turn p (round * 65536 + 1) high (nil_or_mark p (slots_below s high)) (slots_below s high)) else None

-- the first turn, once exactly a quorum's NewView messages were received and the replica is in no later round
-- rule: HotStuff: A round begins on the highest certificate of a quorum of NewViews
abbrev pub first_turn : Params → State → ℕ → Option Turn
first_turn p s round =
    if (length (all_news p.setup.n s.news round) == p.setup.quorum) && nat_le (round_of s.view) round
    then turn_on p s round (best Root (all_news p.setup.n s.news round)) else None

-- ---- The turn that an input triggers; k is the state after the input without that turn

abbrev pub proposed_on : Params → ℕ → State → State → ℕ → Body → Option Turn
proposed_on p me s k from (NewView round high) =
    if keeps_news p me s from round high then first_turn p k round else None
proposed_on p me s k from (Vote phase view d) =
    if keeps_vote p s from phase view d && (is_reached p k phase view d && not (phase == 2))
    then next_turn p k k.turns else None
proposed_on p me s k from other = None

abbrev pub proposed : Params → ℕ → State → State → Input Message → Option Turn
proposed p me s k (Cast slot batch) = if may_cast p me s slot.0 then next_turn p k k.turns else None
proposed p me s k (Receive from msg) = proposed_on p me s k from.0 msg.body
proposed p me s k Timeout = None

abbrev pub with_turn : State → Option Turn → State
with_turn s None = s
with_turn s (Some t) = record s { turns = t ∷ s.turns }

-- ---- The state after an input

abbrev pub after : Params → ℕ → State → Input Message → State
after p me s i = with_turn (kept p me s i) (proposed p me s (kept p me s i) i)
