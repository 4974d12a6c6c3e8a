-- When an instance of the code refines a list of inputs, and what the parts of its steps give: what is taken of an
-- input, and its messages, signed one after the other.
use Rattle.std.specs.Prelude.{◌≡◌, ℕ, ◌+◌, List, ◌++◌, take, is_some, IfSome}
use Rattle.iss_base.specs.Lists.{In}
use Rattle.iss_keys.specs.Directories.{AreKeysOf}
use Rattle.iss_keys.specs.KeyStates.{KeyState}
use Rattle.iss_request.specs.declared.ids.Slot.{Slot}
use Rattle.iss_request.specs.declared.requests.Batch.{Batch}
use Rattle.iss_sb.specs.declared.effects.Effects.{Effects}
use Rattle.iss_sb.specs.declared.effects.Input.{Input}
use Rattle.iss_sb.specs.declared.effects.Params.{Params}
use Rattle.iss_sb.specs.declared.effects.To.{To}
use Rattle.iss_sb.specs.Calls.{AllIn, AreToNodes, has_slot, slots_of}
use Rattle.iss_sb.specs.Evidence.{Item, accepts, one_or_none}
use Rattle.hs_tree.specs.declared.messages.Message.{Message}
use Rattle.hs_tree.specs.declared.messages.Body.{Body}
use Rattle.sb_hotstuff.specs.declared.hotstuff.HotStuff.{HotStuff}
use Rattle.sb_hotstuff.specs.declared.outcomes.Taken.{Taken}
use Rattle.hs_views.specs.Accepted.{Adds, AreAccepted}
use Rattle.hs_views.specs.Delivered.{IsDelivered}
use Rattle.sb_hotstuff.specs.Drafts.{AreDrafts}
use Rattle.hs_views.specs.Drafts.{count_of}
use Rattle.sb_hotstuff.specs.HotStuff.{asked_in, decided, decides, sign_all, state}
use Rattle.sb_hotstuff.specs.Rules.{State}
use Rattle.sb_hotstuff.specs.Refines.{RefinesState}
use Rattle.sb_hotstuff.specs.Steps.{Does}

-- The value refines the history: it represents the state and the accepted batches. The first `delivered` slots of the
-- segment are exactly those that are decided.
pub record Refines (m : HotStuff) (p : Params) (me : ℕ) (xs : List (Item Message)) : Type 0 where
  pub node : m.node.me.0 ≡ me
  pub keeps : RefinesState m.node (state p me xs)
  pub batches : AreAccepted m.accepted (accepts xs)
  pub reached : (n : ℕ) → is_some (decided p me xs n) ≡ has_slot n (take m.delivered p.slots)

-- the effects of what was taken: its messages signed with the next leaves, the answer first
pub record IsSigned (p : Params) (t : Taken) (before later : KeyState) (e : Effects Message) : Type 0 where
  pub sends : (me : ℕ) (xs ys : List (To × Body)) → AreKeysOf me p.setup.keys before →
      AreDrafts p t.outcome.answer xs → AreDrafts p t.outcome.proposal ys →
      e.sends ≡ sign_all p me before.used (xs ++ ys)
  pub addressed : AreToNodes p.setup.n e.sends
  pub accepts : e.accepted ≡ t.accepted
  pub delivers : e.delivers ≡ t.delivers
  pub hashed : e.hashed ≡ t.outcome.hashed
  pub used : later ≡
      record before { used = before.used + (count_of t.outcome.answer + count_of t.outcome.proposal) }

-- the instance took the input, as the model says in any state that it represents
pub record Takes (p : Params) (m n : HotStuff) (i : Input Message) (t : Taken) : Type 0 where
  pub does : (s : State) → RefinesState m.node s → Does p m.node n.node s i t.outcome
  pub asked : (s : State) (old : List (Slot × Batch)) → RefinesState m.node s → AreAccepted m.accepted old →
      t.accepted ≡ asked_in p m.node.me.0 s old i
  pub more : Adds m.accepted n.accepted (one_or_none t.accepted)
  pub inside : IfSome t.accepted (λ x. In x.0 p.slots)
  pub delivers : (s : State) → RefinesState m.node s →
      IsDelivered p m.delivered n.delivered t.delivers (decides p s i)
  pub within : AllIn (slots_of t.delivers) p.slots
