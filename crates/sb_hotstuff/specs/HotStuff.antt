-- HotStuff as a module: what a replica accepts, sends, hashes and decides, over the list of what it took. 3f+1
-- replicas, 2f+1 decide.
use Rattle.std.specs.Prelude.{ℕ, suc, ◌==◌, ◌&&◌, false, List, [], ◌∷◌, ◌++◌, length, Option, Some, None, if◌then◌else◌}
use Rattle.iss_base.specs.Lists.{first_of}
use Rattle.iss_request.specs.declared.ids.Slot.{Slot}
use Rattle.iss_request.specs.declared.requests.Batch.{Batch}
use Rattle.iss_request.specs.declared.requests.Value.{Value}
use Rattle.iss_request.specs.Setup.{nodes_of_kind, quorum_of_kind}
use Rattle.iss_request.specs.declared.setups.Kind.TheVariants.{Byzantine}
use Rattle.iss_sb.specs.declared.effects.Input.{Input}
use Rattle.iss_sb.specs.declared.effects.Input.TheVariants.{Cast, Receive, Timeout}
use Rattle.iss_sb.specs.declared.effects.Params.{Params}
use Rattle.iss_sb.specs.declared.effects.To.{To}
use Rattle.iss_sb.specs.declared.effects.To.TheVariants.{All as To_all}
use Rattle.iss_sb.specs.Evidence.{Item, Made, Module, accepts}
use Rattle.iss_sb.specs.declared.content.Content.{Content}
use Rattle.hs_tree.specs.declared.certificates.Certificate.{Certificate}
use Rattle.hs_tree.specs.declared.messages.Message.{Message}
use Rattle.hs_tree.specs.declared.messages.Body.{Body}
use Rattle.hs_tree.specs.declared.messages.Body.TheVariants.{NewView, Prepare, PreCommit, Commit, Decide, Vote}
use Rattle.hs_tree.specs.Certificates.{digest_of}
use Rattle.hs_tree.specs.Messages.{parse, spell}
use Rattle.hs_tree.specs.Statements.{claims, node_string}
use Rattle.hs_tree.specs.Tree.{basic, branch, is_known, strings_of, value_at_slot, value_of}
use Rattle.sb_hotstuff.specs.Rules.{State, after, certificate, is_good, is_reached, keeps_vote, kept, may_cast, may_end, may_prepare, may_second, may_third, node_digest, proposed, slots_below, start}
use Rattle.hs_views.specs.Sending.{signed_from, to_leader, vote_for}
use Rattle.hs_views.specs.Views.{Turn, round_of}
use Rattle.hs_views.specs.Batches.{offered_at}

-- the state of a replica with this history
abbrev pub state : Params → ℕ → List (Item Message) → State
state p me [] = start
state p me (x ∷ xs) = after p me (state p me xs) x.input

-- ---- Accepted batches: a valid cast, or the batch of a valid proposal, unless it was accepted at that slot before

-- the batch of a proposal, at the slot after those of its parent's branch
abbrev pub offered : Params → State → List (Slot × Batch) → Content → Certificate → Option (Slot × Batch)
offered p s old what just = offered_at p old what (slots_below s just)

-- the batch that the replica accepts with a message
abbrev pub asked_by : Params → State → List (Slot × Batch) → ℕ → Body → Option (Slot × Batch)
asked_by p s old from (Prepare view what just) =
    if may_prepare p s from view what just then offered p s old what just else None
asked_by p s old from other = None

-- the batch that a replica in state s accepts with an input, after these batches
abbrev pub asked_in : Params → ℕ → State → List (Slot × Batch) → Input Message → Option (Slot × Batch)
asked_in p me s old (Cast slot batch) = if may_cast p me s slot.0 then Some (slot, batch) else None
asked_in p me s old (Receive from msg) = asked_by p s old from.0 msg.body
asked_in p me s old Timeout = None

abbrev pub asks : Params → ℕ → List (Item Message) → Input Message → Option (Slot × Batch)
asks p me xs i = asked_in p me (state p me xs) (accepts xs) i

-- ---- Bodies that are sent: first the answer, then the proposal that the input triggers

-- a vote, to the leader of the view's round
abbrev pub voted : Params → ℕ → ℕ → List ℕ → List (To × Body)
voted p phase view d = vote_for p phase view d

-- what broadcasts a quorum certificate of a phase: PreCommit, Commit or Decide
abbrev pub shows : ℕ → ℕ → Certificate → Body
shows phase view c =
    if phase == 1 then PreCommit view c else (if phase == 2 then Commit view c else Decide view c)

-- the answer to a message: a vote, a new certificate, or nothing
abbrev pub answers_heard : Params → State → State → ℕ → Body → List (To × Body)
answers_heard p s k from (Prepare view what just) =
    if may_prepare p s from view what just then voted p 1 view (node_digest p view what just) else []
answers_heard p s k from (PreCommit view shown) =
    if may_second p s view shown then voted p 2 view (digest_of shown) else []
answers_heard p s k from (Commit view shown) =
    if may_third p s view shown then voted p 3 view (digest_of shown) else []
answers_heard p s k from (Vote phase view d) =
    if keeps_vote p s from phase view d && is_reached p k phase view d
    then (To_all, shows phase view (certificate p k phase view d)) ∷ [] else []
answers_heard p s k from other = []

-- the answer to an input
-- rule: HotStuff: A timeout enters the next round and tells its leader the highest certificate
abbrev pub answers : Params → State → State → Input Message → List (To × Body)
answers p s k (Cast slot batch) = []
answers p s k (Receive from msg) = answers_heard p s k from.0 msg.body
answers p s k Timeout =
    if may_end s then (to_leader p (suc (round_of s.view)), NewView (suc (round_of s.view)) s.high) ∷ [] else []

-- the Prepare of a turn
abbrev pub proposals : Option Turn → List (To × Body)
proposals None = []
proposals (Some t) = (To_all, Prepare t.view t.what t.just) ∷ []

-- all bodies that a step sends
abbrev pub drafts : Params → ℕ → State → Input Message → List (To × Body)
drafts p me s i = answers p s (kept p me s i) i ++ proposals (proposed p me s (kept p me s i) i)

-- signs each body with the next leaf, from this one on
abbrev pub sign_all : Params → ℕ → ℕ → List (To × Body) → List (To × Message)
sign_all p me leaf xs = signed_from basic p me leaf xs

-- ---- Hashed strings: for a node that is taken or proposed, its value's string and its own

abbrev pub strings_at : Params → ℕ → Content → Certificate → List (List ℕ)
strings_at p view what just = strings_of p.setup.version (value_of what) ++ node_string basic p view what just ∷ []

abbrev pub taken_strings : Params → State → ℕ → Body → List (List ℕ)
taken_strings p s from (Prepare view what just) =
    if may_prepare p s from view what just then strings_at p view what just else []
taken_strings p s from other = []

abbrev pub taken_of : Params → State → Input Message → List (List ℕ)
taken_of p s (Cast slot batch) = []
taken_of p s (Receive from msg) = taken_strings p s from.0 msg.body
taken_of p s Timeout = []

abbrev pub turn_strings : Params → Option Turn → List (List ℕ)
turn_strings p None = []
turn_strings p (Some t) = strings_at p t.view t.what t.just

abbrev pub strings : Params → ℕ → State → Input Message → List (List ℕ)
strings p me s i = taken_of p s i ++ turn_strings p (proposed p me s (kept p me s i) i)

abbrev pub makes : Params → ℕ → List (Item Message) → Input Message → ℕ → Made Message
makes p me xs input leaf = record {
  sends = sign_all p me leaf (drafts p me (state p me xs) input);
  accepted = asks p me xs input;
  strings = strings p me (state p me xs) input;
  used = length (drafts p me (state p me xs) input);
}

-- ---- Decisions: a valid commitQC of a known node decides its branch

-- the value that a message decides at slot n
abbrev pub decides_heard : Params → State → Body → ℕ → Option Value
decides_heard p s (Decide view shown) n =
    if is_good p 3 view shown && is_known s.tree (digest_of shown)
    then value_at_slot (branch s.tree (digest_of shown)) 0 p.slots n else None
decides_heard p s other n = None

-- the value that an input decides at slot n
-- rule: HotStuff: A certificate of the third phase delivers its node's branch, each slot once
abbrev pub decides : Params → State → Input Message → ℕ → Option Value
decides p s (Cast slot batch) n = None
decides p s (Receive from msg) n = decides_heard p s msg.body n
decides p s Timeout n = None

-- the value at slot n that was decided first
abbrev pub decided : Params → ℕ → List (Item Message) → ℕ → Option Value
decided p me [] n = None
decided p me (x ∷ xs) n = first_of (decided p me xs n) (decides p (state p me xs) x.input n)

-- ---- The module

-- for f Byzantine replicas of 3f+1; a step signs at most two messages
abbrev pub hotstuff : Module Message
hotstuff = record {
  nodes = nodes_of_kind Byzantine;
  quorum = quorum_of_kind Byzantine;
  stopping = false;
  tag = basic.tag;
  signs = λ p. 2;
  spell = spell basic.phases;
  parse = parse basic.phases;
  claims = claims basic;
  asks = asks;
  makes = makes;
  decided = decided;
}
