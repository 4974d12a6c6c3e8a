-- The rules of chained HotStuff (Yin and others, 2019: Chained HotStuff). Each proposal carries the certificate of its
-- parent. So one round of votes is the first phase of one node, the second of its parent, the third of its grandparent.
-- A certificate that is seen raises the highest one; the justification of its node raises the lock. Three nodes of
-- consecutive views, each the parent of the next, decide the lowest. A node's digest covers its view.
-- Round 0 proposes batches, later rounds nil. Marks follow a full branch, so its last nodes can be decided.
use Rattle.std.specs.Prelude.{ℕ, suc, ◌+◌, ◌*◌, ◌==◌, ◌&&◌, ◌||◌, Bool, true, false, not, nat_lt, nat_le, List, [], ◌∷◌, ◌++◌, length, Option, Some, None, is_some, if◌then◌else◌}
use Rattle.iss_base.specs.Lists.{first_of, nth, same_bytes}
use Rattle.iss_request.specs.declared.requests.Batch.{Batch}
use Rattle.iss_sb.specs.Calls.{is_slot}
use Rattle.iss_sb.specs.declared.effects.Input.{Input}
use Rattle.iss_sb.specs.declared.effects.Input.TheVariants.{Cast, Receive, Timeout}
use Rattle.iss_sb.specs.declared.effects.Params.{Params}
use Rattle.iss_sb.specs.declared.content.Content.{Content}
use Rattle.iss_sb.specs.declared.content.Content.TheVariants.{Nil, Holds, Mark}
use Rattle.hs_tree.specs.declared.certificates.Certificate.{Certificate}
use Rattle.hs_tree.specs.declared.certificates.Certificate.TheVariants.{Root, Votes}
use Rattle.hs_tree.specs.declared.messages.Message.{Message}
use Rattle.hs_tree.specs.declared.messages.Body.{Body}
use Rattle.hs_tree.specs.declared.messages.Body.TheVariants.{NewView, Prepare, Vote}
use Rattle.hs_tree.specs.Certificates.{digest_of, is_quorum, view_of}
use Rattle.hs_tree.specs.Statements as Statements
use Rattle.sb_chained.specs.declared.links.Lock.{Lock}
use Rattle.hs_tree.specs.Tree.{Node, branch, chained, extends, filled, is_known, root, weight}
use Rattle.hs_views.specs.Views.{round_of, turn_of, leader_of, Turn, is_own_turn, News, news_of, all_news, best, Kept, vote_of, votes_of}

-- ---- Views: a view is a round and a turn in it, view = round * 65536 + turn. Proposals have turns from 1 on

-- the digest of the node that the proposal is for
abbrev pub node_digest : Params → ℕ → Content → Certificate → List ℕ
node_digest p view what just = Statements.node_digest chained p view what just

-- a valid quorum certificate: exactly a quorum's votes in this view, which has a turn
-- rule: Chained HotStuff: A certificate has the votes of exactly a quorum
abbrev pub is_good : Params → ℕ → Certificate → Bool
is_good p view c = nat_le 1 (turn_of view) && is_quorum p.setup.quorum 1 view c

-- a valid justification: the root's certificate, or a valid one of an earlier view
abbrev pub is_just : Params → ℕ → Certificate → Bool
is_just p view Root = true
is_just p view (Votes w q d votes) = is_good p w (Votes w q d votes) && nat_lt w view

-- ---- A replica's state

pub record State : Type 0 where
  pub view : ℕ
  pub tree : List Node
  -- the highest certificate, and the lock: the view and node of the highest justification of a certified node
  -- (HotStuff: genericQC and lockedQC)
  pub high : Certificate
  pub lock : Lock
  -- A leader's batches, oldest first; then its turns, and the votes and NewView messages received, all newest first.
  pub casts : List Batch
  pub turns : List Turn
  pub votes : List Kept
  pub news : List News

abbrev pub start : State
start = record {
  view = 0;
  tree = [];
  high = Root;
  lock = record { view = 0; node = root };
  casts = [];
  turns = [];
  votes = [];
  news = [];
}

-- ---- Votes that a leader counts: each replica's first for one of its turns, up to a quorum

-- the quorum certificate of the votes received
abbrev pub certificate : Params → State → ℕ → List ℕ → Certificate
certificate p s view d = Votes view 1 d (votes_of p.setup.n s.votes 1 view d)

-- whether exactly a quorum's votes were received
abbrev pub is_reached : Params → State → ℕ → List ℕ → Bool
is_reached p s view d = length (votes_of p.setup.n s.votes 1 view d) == p.setup.quorum

-- whether the vote is counted: for a turn of its own, the sender's first, and below a quorum
abbrev pub keeps_vote : Params → State → ℕ → ℕ → ℕ → List ℕ → Bool
keeps_vote p s from phase view d =
    ((phase == 1) && is_own_turn s.turns view d) &&
    (not (is_some (vote_of s.votes 1 view d from)) &&
    nat_lt (length (votes_of p.setup.n s.votes 1 view d)) p.setup.quorum)

abbrev pub with_vote : State → ℕ → ℕ → List ℕ → List ℕ → State
with_vote s from view d sig =
    record s { votes = record { by = from; phase = 1; view = view; digest = d; sig = sig } ∷ s.votes }

-- ---- NewView messages that a leader counts: each replica's first valid one for a round that it leads, up to a quorum

-- whether the NewView message is counted
abbrev pub keeps_news : Params → ℕ → State → ℕ → ℕ → Certificate → Bool
keeps_news p me s from round high =
    ((nat_le 1 round && (me == leader_of p round)) && is_just p (round * 65536) high) &&
    (not (is_some (news_of s.news round from)) && nat_lt (length (all_news p.setup.n s.news round)) p.setup.quorum)

abbrev pub with_news : State → ℕ → ℕ → Certificate → State
with_news s from round high = record s { news = record { by = from; round = round; high = high } ∷ s.news }

-- the certificate, if its node is known
abbrev pub known_high : State → Certificate → Option Certificate
known_high s high = if is_known s.tree (digest_of high) then Some high else None

-- the highest certificate of exactly a quorum's NewView messages, if its node is known and the replica is in no later
-- round
-- rule: Chained HotStuff: A round begins on the highest certificate of a quorum of NewViews
abbrev pub first_high : Params → State → ℕ → Option Certificate
first_high p s round =
    if (length (all_news p.setup.n s.news round) == p.setup.quorum) && nat_le (round_of s.view) round
    then known_high s (best Root (all_news p.setup.n s.news round)) else None

-- ---- A cast: at the segment's leader, in round 0, at the next slot

abbrev pub may_cast : Params → ℕ → State → ℕ → Bool
may_cast p me s slot = ((me == p.leader.0) && (round_of s.view == 0)) && is_slot slot (nth p.slots (length s.casts))

abbrev pub with_cast : State → Batch → State
with_cast s b = record s { casts = s.casts ++ b ∷ [] }

-- ---- A proposal

-- whether it is by the leader of its view, on a valid justification whose node is known
abbrev pub is_usable : Params → State → ℕ → ℕ → Certificate → Bool
is_usable p s from view just =
    ((from == leader_of p (round_of view)) && nat_le 1 (turn_of view)) &&
    (is_just p view just && is_known s.tree (digest_of just))

-- HotStuff's safeNode: the node extends the locked one (safety rule), or its justification is above the lock (liveness
-- rule).
-- rule: Chained HotStuff: A proposal is safe if it extends the lock or its certificate is above the lock
abbrev pub is_safe : Params → State → ℕ → Content → Certificate → Bool
is_safe p s view what just =
    (same_bytes (node_digest p view what just) s.lock.node || extends s.tree (digest_of just) s.lock.node) ||
    nat_lt s.lock.view (view_of just)

-- What may follow a branch that fills this many slots: in round 0 a batch, in later rounds nil; a mark once all slots
-- are filled.
-- rule: Chained HotStuff: Batches are proposed in round 0 only; later rounds propose nil; marks follow a full branch
abbrev pub is_allowed : Params → ℕ → ℕ → Content → Bool
is_allowed p round slots Nil = nat_le 1 round && nat_lt slots (length p.slots)
is_allowed p round slots (Holds b) = (round == 0) && nat_lt slots (length p.slots)
is_allowed p round slots Mark = not (nat_lt slots (length p.slots))

-- how many slots the branch of the justification's node fills
abbrev pub slots_below : State → Certificate → ℕ
slots_below s just = filled (branch s.tree (digest_of just))

-- whether the proposal is taken and gets a vote
-- rule: Chained HotStuff: A proposal is taken only in a view above the replica's own
abbrev pub may_prepare : Params → State → ℕ → ℕ → Content → Certificate → Bool
may_prepare p s from view what just =
    (is_usable p s from view just && nat_lt s.view view) &&
    (is_safe p s view what just && is_allowed p (round_of view) (slots_below s just) what)

abbrev pub node_on : Params → ℕ → Content → Certificate → Node
node_on p view what just = record {
  view = view;
  digest = node_digest p view what just;
  from = view_of just;
  parent = digest_of just;
  what = what;
}

-- the node is now known, and its view the replica's own
abbrev pub with_node : Params → State → ℕ → Content → Certificate → State
with_node p s view what just = record s { view = view; tree = node_on p view what just ∷ s.tree }

-- ---- A certificate that is seen, of a known node

-- the newest node with this digest
abbrev pub find : List Node → List ℕ → Option Node
find [] d = None
find (k ∷ ks) d = if same_bytes k.digest d then Some k else find ks d

abbrev pub higher : Certificate → Certificate → Certificate
higher c d = if nat_lt (view_of c) (view_of d) then d else c

-- the lock, or the justification of node x if it is higher
-- rule: Chained HotStuff: Only the justification of a certified node becomes the lock, which never decreases
abbrev pub raised : Lock → Node → Lock
raised l x = if nat_lt l.view x.from then record { view = x.from; node = x.parent } else l

-- a certificate of node x was seen
abbrev pub noted : State → Certificate → Option Node → State
noted s q None = s
noted s q (Some x) = record s { high = higher s.high q; lock = raised s.lock x }

-- the state once this certificate was seen; the root's changes nothing
abbrev pub with_shown : State → Option Certificate → State
with_shown s None = s
with_shown s (Some Root) = s
with_shown s (Some (Votes view phase d votes)) = noted s (Votes view phase d votes) (find s.tree d)

-- node j, if its view is the one before that of node k
abbrev pub if_next : Node → Option Node → Option Node
if_next k None = None
if_next k (Some j) = if suc j.view == k.view then Some j else None

-- the parent of a node, if its view is the one before
abbrev pub down : List Node → Option Node → Option Node
down tree None = None
down tree (Some k) = if_next k (find tree k.parent)

-- The node that a certificate of this digest decides: the grandparent, if the three have consecutive views (HotStuff:
-- three-chain).
-- rule: Chained HotStuff: Three nodes of consecutive views decide the lowest, once the highest is certified
abbrev pub committed : List Node → List ℕ → Option Node
committed tree d = down tree (down tree (find tree d))

abbrev pub committed_by : State → Option Certificate → Option Node
committed_by s None = None
committed_by s (Some Root) = None
committed_by s (Some (Votes view phase d votes)) = committed s.tree d

-- ---- A timeout enters the next round, unless this is the last one

abbrev pub may_end : State → Bool
may_end s = nat_lt (round_of s.view) 65535

abbrev pub with_round : State → State
with_round s = record s { view = suc (round_of s.view) * 65536 }

-- ---- The state after an input, without the certificate that it shows and the turn that it triggers

abbrev pub heard : Params → ℕ → State → ℕ → Body → List ℕ → State
heard p me s from (NewView round high) sig =
    if keeps_news p me s from round high then with_news s from round high else s
heard p me s from (Prepare view what just) sig =
    if may_prepare p s from view what just then with_node p s view what just else s
heard p me s from (Vote phase view d) sig =
    if keeps_vote p s from phase view d then with_vote s from view d sig else s
heard p me s from other sig = s

abbrev pub taken : Params → ℕ → State → Input Message → State
taken p me s (Cast slot batch) = if may_cast p me s slot.0 then with_cast s batch else s
taken p me s (Receive from msg) = heard p me s from.0 msg.body msg.sig
taken p me s Timeout = if may_end s then with_round s else s

-- ---- The certificate that an input shows; k is the state after the input without it. A proposal shows its
-- justification, even if it is not taken; the last vote of a quorum shows the quorum's certificate; the last NewView of
-- a quorum the highest one

abbrev pub shows_on : Params → ℕ → State → State → ℕ → Body → Option Certificate
shows_on p me s k from (NewView round high) =
    if keeps_news p me s from round high then first_high p k round else None
shows_on p me s k from (Prepare view what just) = if is_usable p s from view just then Some just else None
shows_on p me s k from (Vote phase view d) =
    if keeps_vote p s from phase view d && is_reached p k view d then Some (certificate p k view d) else None
shows_on p me s k from other = None

abbrev pub shows : Params → ℕ → State → State → Input Message → Option Certificate
shows p me s k (Cast slot batch) = None
shows p me s k (Receive from msg) = shows_on p me s k from.0 msg.body
shows p me s k Timeout = None

-- the state after an input, without the turn that it triggers
abbrev pub kept : Params → ℕ → State → Input Message → State
kept p me s i = with_shown (taken p me s i) (shows p me s (taken p me s i) i)

-- ---- The leader's next turn, which extends its last one by that one's prepareQC

abbrev pub turn : Params → ℕ → Certificate → Content → ℕ → Turn
turn p view just what slots =
    record { view = view; digest = node_digest p view what just; just = just; what = what; slots = weight what + slots }

-- the turn that proposes this batch, if there is one
abbrev pub cast_turn : Params → ℕ → Certificate → ℕ → Option Batch → Option Turn
cast_turn p view just slots None = None
cast_turn p view just slots (Some b) = Some (turn p view just (Holds b) slots)

-- whether a branch that fills this many slots fills all
abbrev pub is_full : Params → ℕ → Bool
is_full p slots = not (nat_lt slots (length p.slots))

-- the view of the leader's first turn in the round whose branch is full
abbrev pub full_turn : Params → List Turn → ℕ → Option ℕ
full_turn p [] round = None
full_turn p (t ∷ ts) round =
    first_of (full_turn p ts round) (if (round_of t.view == round) && is_full p t.slots then Some t.view else None)

-- whether a mark may be proposed in this view: three follow the first turn with a full branch
abbrev pub is_marked : ℕ → Option ℕ → Bool
is_marked view None = false
is_marked view (Some full) = nat_le view (full + 3)

-- the turn is certified, and the replica is in no later round
abbrev pub is_ready : Params → State → Turn → Bool
is_ready p s t = is_reached p s t.view t.digest && nat_le (round_of s.view) (round_of t.view)

-- In round 0 the cast of the next slot is proposed, if there is one; in later rounds nil. Once all slots are filled,
-- marks are.
abbrev pub turn_after : Params → State → Turn → Option Turn
turn_after p s t =
    if nat_lt t.slots (length p.slots)
    then (if round_of t.view == 0
    then cast_turn p (suc t.view) (certificate p s t.view t.digest) t.slots (nth s.casts t.slots)
    else Some (turn p (suc t.view) (certificate p s t.view t.digest) Nil t.slots))
    else (if is_marked (suc t.view) (full_turn p s.turns (round_of t.view))
    then Some (turn p (suc t.view) (certificate p s t.view t.digest) Mark t.slots) else None)

-- turns are listed newest first; the first turn of round 0 needs no predecessor
-- rule: Chained HotStuff: The next turn extends the last one, once it is certified
abbrev pub next_turn : Params → State → List Turn → Option Turn
next_turn p s [] = if round_of s.view == 0 then cast_turn p 1 Root 0 (nth s.casts 0) else None
next_turn p s (t ∷ ts) = if is_ready p s t then turn_after p s t else None

-- ---- The first turn of a round, on the highest certificate of a quorum of NewView messages

-- nil if a slot is open, else a mark
abbrev pub nil_or_mark : Params → ℕ → Content
nil_or_mark p slots = if nat_lt slots (length p.slots) then Nil else Mark

abbrev pub turn_on : Params → State → ℕ → Option Certificate → Option Turn
turn_on p s round None = None
turn_on p s round (Some high) =
    Some (turn p (round * 65536 + 1) high (nil_or_mark p (slots_below s high)) (slots_below s high))

-- ---- The turn that an input triggers; k is the state after the input without that turn

abbrev pub proposed_on : Params → ℕ → State → State → ℕ → Body → Option Turn
proposed_on p me s k from (NewView round high) =
    if keeps_news p me s from round high then turn_on p k round (first_high p k round) else None
proposed_on p me s k from (Vote phase view d) =
    if keeps_vote p s from phase view d && is_reached p k view d then next_turn p k k.turns else None
proposed_on p me s k from other = None

abbrev pub proposed : Params → ℕ → State → State → Input Message → Option Turn
proposed p me s k (Cast slot batch) = if may_cast p me s slot.0 then next_turn p k k.turns else None
proposed p me s k (Receive from msg) = proposed_on p me s k from.0 msg.body
proposed p me s k Timeout = None

-- the node of a turn: a leader knows the nodes that it proposes
abbrev pub node_of : Turn → Node
node_of t =
    record { view = t.view; digest = t.digest; from = view_of t.just; parent = digest_of t.just; what = t.what }

abbrev pub with_turn : State → Option Turn → State
with_turn s None = s
with_turn s (Some t) = record s { turns = t ∷ s.turns; tree = node_of t ∷ s.tree }

-- ---- The state after an input

abbrev pub after : Params → ℕ → State → Input Message → State
after p me s i = with_turn (kept p me s i) (proposed p me s (kept p me s i) i)
