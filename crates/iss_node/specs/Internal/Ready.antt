-- What the steps of a node rely on: the state refines some history, and the leaf for the vote is kept. A step is taken
-- only if a leaf is left behind it, so an epoch that fills up has one. Early messages are tried only in an open epoch.
use Rattle.std.specs.Prelude.{◌≡◌, ℕ, ◌+◌, ◌<◌, ◌≤◌, Bool, true, false, is_some, length, nat_le, List, Some, Err, Ok, Result}
use Rattle.iss_checkpoint.specs.Votes.{voters_of}
use Rattle.iss_keys.specs.KeyStates.{left_of}
use Rattle.iss_rules.specs.declared.events.Why.{Why}
use Rattle.iss_node.specs.State.{RefinesPast, StateView, led}
use Rattle.iss_model.specs.Node.{claims_of_input}
use Rattle.iss_node.specs.Steps.{IsNodeInput}
use Rattle.iss_rules.specs.Concrete.{rules_of}
use Rattle.iss_rules.specs.Past.{Past, leads_in, params_of}
use Rattle.iss_node.specs.declared.answers.Outcome.{Outcome}
use Rattle.iss_sb.specs.Calls.{Relation}
use Rattle.iss_sb.specs.Evidence.{Module}
use Rattle.iss_sb.specs.declared.effects.Claim.{Claim}
use Rattle.iss_sb.specs.declared.effects.Input.{Input}
use Rattle.iss_segment.specs.Instance.{SegmentState}
use Rattle.iss_transfer.specs.Adoption.{adoption}
use Rattle.iss_transfer.specs.declared.adopting.Adoption.TheVariants.{Adopt}
use Rattle.iss_transfer.specs.declared.pieces.Piece.{Piece}

-- The state refines some history.
abbrev pub RefinesSome : {M Msg : Type 0} → Module Msg → Relation M Msg → StateView M Msg → Type 0
RefinesSome {Msg = Msg} m refines v = (past : Past Msg) × RefinesPast m refines v past

-- Whether the log has all slots of the epoch.
abbrev pub is_full : {M Msg : Type 0} → StateView M Msg → Bool
is_full v = nat_le (v.plan.start + v.setup.epoch) (length v.log.entries)

-- The node leads as l, and more leaves are left than a step of that instance uses.
pub record HasLeaves {M Msg : Type 0} (m : Module Msg) (v : StateView M Msg) (l : ℕ) : Type 0 where
  pub leads : is_some (led v.segments l) ≡ true
  pub enough : (g : SegmentState M) → led v.segments l ≡ Some g → m.signs g.params < left_of v.keys

-- The sender of the input exists, and these are the signatures that it claims, if leader l leads the epoch.
pub record IsReadInput {M Msg : Type 0} (m : Module Msg) (refines : Relation M Msg) (v : StateView M Msg) (l : ℕ)
    (input : Input Msg) (claims : List Claim) : Type 0 where
  pub sender : IsNodeInput v.setup.n input
  pub read : (past : Past Msg) → RefinesPast m refines v past → leads_in (rules_of v.setup) m v.me.0 past l ≡ true →
      claims ≡ claims_of_input m (params_of (rules_of v.setup) m v.me.0 past l) input

-- The instance of leader l may take the input: its sender exists, and leaves are left.
pub record MayStep {M Msg : Type 0} (m : Module Msg) (v : StateView M Msg) (l : ℕ) (given : Input Msg) : Type 0 where
  pub leader : l < v.setup.n
  pub input : IsNodeInput v.setup.n given
  pub leaves : HasLeaves m v l

-- The state refines some history, and the message comes from an existing node.
pub record MayTake {M Msg : Type 0} (m : Module Msg) (refines : Relation M Msg) (v : StateView M Msg) (k : ℕ) :
    Type 0 where
  pub from : k < v.setup.n
  pub refined : RefinesSome m refines v

-- The epoch lasts.
pub record IsOpen {M Msg : Type 0} (m : Module Msg) (refines : Relation M Msg) (v : StateView M Msg) : Type 0 where
  pub refined : RefinesSome m refines v
  pub lasts : is_full v ≡ false

-- The epoch lasts, and the message comes from an existing node.
pub record MayTakeEarly {M Msg : Type 0} (m : Module Msg) (refines : Relation M Msg) (v : StateView M Msg) (k : ℕ) :
    Type 0 where
  pub from : k < v.setup.n
  pub lasts : IsOpen m refines v

-- If the log has all slots of the epoch, there is a leaf for the vote on it.
pub record IsReady {M Msg : Type 0} (m : Module Msg) (refines : Relation M Msg) (v : StateView M Msg) : Type 0 where
  pub refined : RefinesSome m refines v
  pub leaf : is_full v ≡ true → 1 ≤ left_of v.keys

-- The log has all slots of the epoch, and there is a leaf for the vote on it.
pub record MayVote {M Msg : Type 0} (m : Module Msg) (refines : Relation M Msg) (v : StateView M Msg) : Type 0 where
  pub refined : RefinesSome m refines v
  pub full : is_full v ≡ true
  pub leaf : 1 ≤ left_of v.keys

-- A step of an instance that was taken left a leaf. One that was dropped changed nothing.
abbrev pub IsTried : {M Msg : Type 0} → StateView M Msg → StateView M Msg → Result Outcome Why → Type 0
IsTried old new (Ok outcome) = 1 ≤ left_of new.keys
IsTried old new (Err why) = new ≡ old

-- A step that was taken is to be completed.
abbrev pub IsToComplete : {M Msg : Type 0} → Module Msg → Relation M Msg → StateView M Msg → Result Outcome Why → Type 0
IsToComplete m refines v (Ok outcome) = IsReady m refines v
IsToComplete m refines v (Err why) = Unit {0}

-- The state refines some history, and the check of the piece says to adopt it.
pub record MayAdopt {M Msg : Type 0} (m : Module Msg) (refines : Relation M Msg) (v : StateView M Msg) (p : Piece)
    (hashed : List (List ℕ)) : Type 0 where
  pub refined : RefinesSome m refines v
  pub found : adoption v.setup (voters_of v.setup v.directory) v.log.entries v.epoch p ≡ Adopt hashed
