-- When an instance of the code refines a list of inputs, and what the parts of its steps give: a certificate that is
-- seen, a rule, the batch that is accepted, and what is delivered.
use Rattle.std.specs.Prelude.{◌≡◌, ℕ, ◌+◌, List, take, Option, Some, None, is_some, IfSome, if◌then◌else◌}
use Rattle.iss_base.specs.Lists.{In}
use Rattle.iss_keys.specs.Directories.{AreKeysOf}
use Rattle.iss_keys.specs.KeyStates.{KeyState}
use Rattle.iss_request.specs.declared.ids.Slot.{Slot}
use Rattle.iss_request.specs.declared.requests.Batch.{Batch}
use Rattle.iss_request.specs.declared.requests.Value.{Value}
use Rattle.iss_sb.specs.declared.effects.Effects.{Effects}
use Rattle.iss_sb.specs.declared.effects.Input.{Input}
use Rattle.iss_sb.specs.declared.effects.Params.{Params}
use Rattle.iss_sb.specs.declared.effects.To.{To}
use Rattle.iss_sb.specs.declared.effects.Input.TheVariants.{Cast, Receive, Timeout}
use Rattle.iss_sb.specs.Calls.{AllIn, AreToNodes, has_slot, slots_of}
use Rattle.iss_sb.specs.Evidence.{Item, accepts, one_or_none}
use Rattle.iss_sb.specs.declared.content.Content.{Content}
use Rattle.hs_tree.specs.declared.certificates.Certificate.{Certificate}
use Rattle.hs_tree.specs.declared.messages.Message.{Message}
use Rattle.hs_tree.specs.declared.messages.Body.{Body}
use Rattle.hs_tree.specs.Tree.{Node as Tree_node}
use Rattle.sb_chained.specs.declared.chained.Chained.{Chained}
use Rattle.sb_chained.specs.declared.outcomes.Outcome.{Outcome}
use Rattle.sb_chained.specs.declared.outcomes.Taken.{Taken}
use Rattle.sb_chained.specs.declared.state.Node.{Node}
use Rattle.hs_views.specs.Accepted.{AreAccepted, Adds}
use Rattle.hs_views.specs.Delivered.{IsDelivered}
use Rattle.sb_chained.specs.Chained.{asked_by, decided, decides, drafts, sign_all, state, strings, strings_at, value_on, voted}
use Rattle.sb_chained.specs.Drafts.{AreDrafts}
use Rattle.hs_views.specs.Drafts.{count_of}
use Rattle.sb_chained.specs.Links.{digest_at}
use Rattle.sb_chained.specs.Rules.{State, after, committed_by, may_cast, node_digest, with_node, with_shown}
use Rattle.sb_chained.specs.Refines.{RefinesState}

-- The value refines the history: it represents the state and the accepted batches. The first `delivered` slots of the
-- segment are exactly those that are decided.
pub record Refines (m : Chained) (p : Params) (me : ℕ) (xs : List (Item Message)) : Type 0 where
  pub node : m.node.me.0 ≡ me
  pub keeps : RefinesState p m.node (state p me xs)
  pub batches : AreAccepted m.accepted (accepts xs)
  pub reached : (n : ℕ) → is_some (decided p me xs n) ≡ has_slot n (take m.delivered p.slots)

-- the effects of what was taken: its message signed with the next leaf
pub record IsSigned (p : Params) (t : Taken) (before later : KeyState) (e : Effects Message) : Type 0 where
  pub sends : (me : ℕ) (xs : List (To × Body)) → AreKeysOf me p.setup.keys before →
      AreDrafts p t.outcome.draft xs → e.sends ≡ sign_all p me before.used xs
  pub addressed : AreToNodes p.setup.n e.sends
  pub accepts : e.accepted ≡ t.accepted
  pub delivers : e.delivers ≡ t.delivers
  pub hashed : e.hashed ≡ t.outcome.hashed
  pub used : later ≡ record before { used = before.used + count_of t.outcome.draft }

-- the branch of the node with this digest, if there is one, is delivered
pub record IsDeciding (p : Params) (m n : Chained) (decided : Option (List ℕ)) (ds : List (Slot × Value)) : Type 0 where
  pub node : n.node ≡ m.node
  pub accepted : n.accepted ≡ m.accepted
  pub delivers : (k : State) (o : Option Tree_node) → RefinesState p m.node k → digest_at o ≡ decided →
      IsDelivered p m.delivered n.delivered ds (value_on p k o)

-- a certificate was seen in state k
pub record IsShown (p : Params) (m n : Chained) (k : State) (q : Option Certificate)
    (ds : List (Slot × Value)) : Type 0 where
  pub node : n.node.me ≡ m.node.me
  pub state : RefinesState p n.node (with_shown k q)
  pub accepted : n.accepted ≡ m.accepted
  pub delivers : IsDelivered p m.delivered n.delivered ds (value_on p k (committed_by k q))

-- the replica took the input in state s, as the model says, but for what is delivered
pub record Makes (p : Params) (old new : Node) (s : State) (i : Input Message) (o : Outcome) : Type 0 where
  pub node : new.me ≡ old.me
  pub state : RefinesState p new (after p old.me.0 s i)
  pub draft : AreDrafts p o.draft (drafts p old.me.0 s i)
  pub hashed : o.hashed ≡ strings p old.me.0 s i

-- a proposal was taken, and its node gets a vote
pub record TakesNode (p : Params) (old new : Node) (s : State) (view : ℕ) (what : Content) (just : Certificate)
    (o : Outcome) : Type 0 where
  pub node : new.me ≡ old.me
  pub state : RefinesState p new (with_node p s view what just)
  pub draft : AreDrafts p o.draft (voted p view (node_digest p view what just))
  pub hashed : o.hashed ≡ strings_at p view what just

-- the batch that a replica in state s accepts with the input, after these batches
abbrev pub asked_in : Params → ℕ → State → List (Slot × Batch) → Input Message → Option (Slot × Batch)
asked_in p me s old (Cast slot batch) = if may_cast p me s slot.0 then Some (slot, batch) else None
asked_in p me s old (Receive from msg) = asked_by p s old from.0 msg.body
asked_in p me s old Timeout = None

-- the instance took the input in state s, as the model says
pub record Does (p : Params) (m n : Chained) (s : State) (i : Input Message) (t : Taken) : Type 0 where
  pub node : n.node.me ≡ m.node.me
  pub state : RefinesState p n.node (after p m.node.me.0 s i)
  pub draft : AreDrafts p t.outcome.draft (drafts p m.node.me.0 s i)
  pub hashed : t.outcome.hashed ≡ strings p m.node.me.0 s i
  pub delivers : IsDelivered p m.delivered n.delivered t.delivers (decides p m.node.me.0 s i)

-- the same for any state that the instance keeps, with the accepted batch
pub record Takes (p : Params) (m n : Chained) (i : Input Message) (t : Taken) : Type 0 where
  pub does : (s : State) → RefinesState p m.node s → Does p m n s i t
  pub asked : (s : State) (old : List (Slot × Batch)) → RefinesState p m.node s → AreAccepted m.accepted old →
      t.accepted ≡ asked_in p m.node.me.0 s old i
  pub more : Adds m.accepted n.accepted (one_or_none t.accepted)
  pub inside : IfSome t.accepted (λ x. In x.0 p.slots)
  pub within : AllIn (slots_of t.delivers) p.slots
