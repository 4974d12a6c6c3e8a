-- What a node's answer says about the model's step. If the model takes the event, the node refines the core after it
-- and hands out what the model makes: packets in order, own claims, read claims, hashed strings. If the model drops
-- it, nothing changes, for the same cause. Where memory runs out the node is stale, and shows the log and epoch that
-- it had.
use Rattle.std.specs.Prelude.{◌≡◌, ◌<◌, ◌+◌, ◌^◌, ℕ, true, List, [], Option, None, take, Err, Ok, Result}
use Rattle.iss_log.specs.LogState.{GoesOn}
use Rattle.iss_rules.specs.Concrete.{rules_of}
use Rattle.iss_rules.specs.Formats.{formats_of}
use Rattle.iss_rules.specs.Parcels.{Formats}
use Rattle.iss_model.specs.Node.{Core, Dropped as Step_dropped, Stepped, Taken as Step_taken, Turn}
use Rattle.iss_rules.specs.Past.{Past, is_complete}
use Rattle.iss_rules.specs.Rules.{Rules}
use Rattle.iss_model.specs.Frames.{ends_in, finish_step_in, frame_of}
use Rattle.iss_rules.specs.declared.events.NodeEvent.{NodeEvent}
use Rattle.iss_rules.specs.declared.events.NodeEvent.TheVariants.{Packet as On_packet, Propose as On_propose, Timeout as On_timeout, AskFrom as On_ask}
use Rattle.iss_rules.specs.declared.events.Why.{Why}
use Rattle.iss_node.specs.Entered.{IsEntered, IsHeldEntered, IsKeptEntry}
use Rattle.iss_node.specs.Internal.Epochs.{HasClosed, HasOpened}
use Rattle.iss_node.specs.State.{NodeView, RefinesBareCore, RefinesCore, RefinesPast, StateRefinesCore, StateView, core_of}
use Rattle.iss_node.specs.declared.answers.Answer.{Answer}
use Rattle.iss_node.specs.declared.answers.Answer.TheVariants.{Dropped as Node_dropped, NoMemory as Node_no_memory, Stale as Node_stale, Taken as Node_taken}
use Rattle.iss_node.specs.declared.answers.Early.{Early}
use Rattle.iss_node.specs.declared.answers.Outcome.{Outcome}
use Rattle.iss_sb.specs.Calls.{AreToNodes, Relation}
use Rattle.iss_sb.specs.Evidence.{Module}
use Rattle.iss_sb.specs.declared.effects.Input.{Input}
use Rattle.iss_sb.specs.declared.effects.Input.TheVariants.{Cast, Receive, Timeout}
use Rattle.iss_sb.specs.declared.effects.To.{To}

-- The outcome of a turn: its sends, the node's own signatures in them, the signatures claimed by early messages, and
-- the hashed strings.
pub record IsMade {Msg : Type 0} (turn : Turn Msg) (outcome : Outcome) : Type 0 where
  pub sends : outcome.sends ≡ turn.sends
  pub own : outcome.own ≡ turn.own
  pub early : outcome.early ≡ turn.early
  pub hashed : outcome.hashed ≡ turn.strings

-- ---- one family of answers

-- A turn was made, and its outcome is returned. The parameters say how the new state refines the turn's core, what is
-- handed out for an epoch that was entered, and what is said of the sends.
pub record IsTurnBy {Msg : Type 0} (Refined : Core Msg → Type 0)
    (Entered : Option (Core Msg) → Option (List ℕ) → Type 0) (Addressed : List (To × List ℕ) → Type 0)
    (turn : Turn Msg) (outcome : Outcome) : Type 0 where
  pub refined : Refined turn.core
  pub made : IsMade turn outcome
  pub entered : Entered turn.entered outcome.entered
  pub addressed : Addressed outcome.sends

-- The model accepts the event too, with a turn of which this is said.
pub record IsTakenBy {Msg : Type 0} (Turned : Turn Msg → Outcome → Type 0)
    (stepped : Stepped Msg) (outcome : Outcome) : Type 0 where
  pub turn : Turn Msg
  pub step_is : stepped ≡ Step_taken turn
  pub turned : Turned turn outcome

-- The model drops the event too, and nothing has changed.
pub record IsDroppedBy {Msg : Type 0} (Refined : Core Msg → Type 0) (c : Core Msg)
    (stepped : Stepped Msg) (why : Why) : Type 0 where
  pub step_is : stepped ≡ Step_dropped why
  pub refined : Refined c

-- The result agrees with the model's step.
abbrev pub IsStepBy : {Msg : Type 0} → (Turn Msg → Outcome → Type 0) → (Core Msg → Type 0) → Core Msg → Stepped Msg →
    Result Outcome Why → Type 0
IsStepBy Turned Refined c stepped (Ok outcome) = IsTakenBy Turned stepped outcome
IsStepBy Turned Refined c stepped (Err why) = IsDroppedBy Refined c stepped why

-- If the event names existing nodes, every send goes to one of these n.
abbrev pub AreAddressed : Type 0 → ℕ → List (To × List ℕ) → Type 0
AreAddressed asked n sends = asked → AreToNodes n sends

-- ---- without votes and certificates

-- The state refines the turn's core, and every send goes to an existing node.
abbrev pub IsTurned : {M Msg : Type 0} → Module Msg → Relation M Msg → Turn Msg → StateView M Msg → Outcome → Type 0
IsTurned m refines turn new outcome =
    IsTurnBy (RefinesBareCore m refines new) (IsEntered m new) (AreToNodes new.setup.n) turn outcome

abbrev pub IsStep : {M Msg : Type 0} → Module Msg → Relation M Msg → Core Msg → Stepped Msg → StateView M Msg →
    Result Outcome Why → Type 0
IsStep m refines c stepped new answer =
    IsStepBy (λ turn o. IsTurned m refines turn new o) (RefinesBareCore m refines new) c stepped answer

-- The result agrees with the model's step (or turn), for every history that the state refines.
abbrev pub IsStepOf : {M Msg : Type 0} → Module Msg → Relation M Msg → StateView M Msg →
    (Formats Msg → Rules → ℕ → Core Msg → Stepped Msg) → StateView M Msg → Result Outcome Why → Type 0
IsStepOf {Msg = Msg} m refines old step new answer = (past : Past Msg) → RefinesPast m refines old past →
    IsStep m refines (core_of old past)
    (step (formats_of old.setup m) (rules_of old.setup) old.me.0 (core_of old past)) new answer

abbrev pub IsTurnOf : {M Msg : Type 0} → Module Msg → Relation M Msg → StateView M Msg →
    (Formats Msg → Rules → ℕ → Core Msg → Turn Msg) → StateView M Msg → Outcome → Type 0
IsTurnOf {Msg = Msg} m refines old turn new outcome = (past : Past Msg) → RefinesPast m refines old past →
    IsTurned m refines (turn (formats_of old.setup m) (rules_of old.setup) old.me.0 (core_of old past)) new outcome

-- A turn after a first one: its outcome is appended to that of the first.
abbrev pub IsTurnBehind : {M Msg : Type 0} → Module Msg → Relation M Msg → StateView M Msg →
    (Formats Msg → Rules → ℕ → Turn Msg → Turn Msg) → Outcome → StateView M Msg → Outcome → Type 0
IsTurnBehind {Msg = Msg} m refines old turn first new outcome = (t : Turn Msg) → IsTurned m refines t old first →
    IsTurned m refines (turn (formats_of old.setup m) (rules_of old.setup) old.me.0 t) new outcome

-- A step was completed: the model completes it too.
abbrev pub IsSettled : {M Msg : Type 0} → Module Msg → Relation M Msg → StateView M Msg → StateView M Msg →
    Result Outcome Why → Result Outcome Why → Type 0
IsSettled {Msg = Msg} m refines old new step answer = (c : Core Msg) (stepped : Stepped Msg) →
    IsStep m refines c stepped old step →
    IsStep m refines c (finish_step_in (frame_of old.setup m) old.me.0 stepped) new answer

-- The node voted on its epoch and started the next one.
pub record IsEnded {M Msg : Type 0} (m : Module Msg) (refines : Relation M Msg) (old new : StateView M Msg)
    (outcome : Outcome) (early : List (Early Msg)) : Type 0 where
  pub turned : (past : Past Msg) → RefinesPast m refines old past →
      is_complete (rules_of old.setup) m old.me.0 past ≡ true →
      IsTurned m refines (ends_in (frame_of old.setup m) old.me.0 (core_of old past)) new outcome
  pub kept : early ≡ old.early

-- The epoch was closed, and the next one opened.
pub record IsNextEpoch {M Msg : Type 0} (refines : Relation M Msg) (old new : StateView M Msg)
    (early : List (Early Msg)) : Type 0 where
  pub over : StateView M Msg
  pub begun : StateView M Msg
  pub closed : HasClosed old over
  pub rest : over ≡ record old { standing = over.standing; windows = over.windows }
  pub opened : HasOpened refines over begun (old.epoch + 1) (old.plan.start + old.setup.epoch)
  pub fits : old.plan.start + old.setup.epoch + old.setup.epoch < 2 ^ 64
  pub new_is : new ≡ record begun { early = [] }
  pub kept : early ≡ old.early

-- Set-up, identity and what snapshots hold are the same, and the log was at most extended.
pub record IsSameNode {M Msg : Type 0} (old new : StateView M Msg) : Type 0 where
  pub setup : new.setup ≡ old.setup
  pub me : new.me ≡ old.me
  pub saved : new.saved ≡ old.saved
  pub log : GoesOn old.log.entries new.log.entries

-- In addition the votes and certificates are the same.
pub record IsLater {M Msg : Type 0} (old new : StateView M Msg) : Type 0 where
  pub setup : new.setup ≡ old.setup
  pub me : new.me ≡ old.me
  pub saved : new.saved ≡ old.saved
  pub log : GoesOn old.log.entries new.log.entries
  pub ballots : new.ballots ≡ old.ballots

-- The sender of a message exists.
abbrev pub IsNodeInput : {Msg : Type 0} → ℕ → Input Msg → Type 0
IsNodeInput n (Cast slot batch) = Unit {0}
IsNodeInput n (Receive from msg) = from.0 < n
IsNodeInput n Timeout = Unit {0}

-- ---- with votes and certificates

-- The state refines the turn's core with its votes and certificates. If the event names existing nodes, every send goes
-- to an existing node.
abbrev pub IsHeldTurn : {M Msg : Type 0} → Module Msg → Relation M Msg → Type 0 → Turn Msg → StateView M Msg →
    Outcome → Type 0
IsHeldTurn m refines asked turn new outcome =
    IsTurnBy (StateRefinesCore m refines new) (IsHeldEntered m new) (AreAddressed asked new.setup.n) turn outcome

abbrev pub IsHeldStep : {M Msg : Type 0} → Module Msg → Relation M Msg → Type 0 → Core Msg → Stepped Msg →
    StateView M Msg → Result Outcome Why → Type 0
IsHeldStep m refines asked c stepped new answer =
    IsStepBy (λ turn o. IsHeldTurn m refines asked turn new o) (StateRefinesCore m refines new) c stepped answer

-- The result agrees with the model's step, for every core that the state refines.
abbrev pub IsHeldStepOf : {M Msg : Type 0} → Module Msg → Relation M Msg → Type 0 → StateView M Msg →
    (Formats Msg → Rules → ℕ → Core Msg → Stepped Msg) → StateView M Msg → Result Outcome Why → Type 0
IsHeldStepOf {Msg = Msg} m refines asked old step new answer = (c : Core Msg) → StateRefinesCore m refines old c →
    IsHeldStep m refines asked c (step (formats_of old.setup m) (rules_of old.setup) old.me.0 c) new answer

-- ---- as an event of its own

-- What is handed out takes the event's place in a journal, and is noted. A dropped event notes nothing.
abbrev pub IsKeptTurn : {M Msg : Type 0} → Module Msg → Relation M Msg → Type 0 → StateView M Msg → Turn Msg →
    StateView M Msg → Outcome → Type 0
IsKeptTurn m refines asked old turn new outcome =
    IsTurnBy (StateRefinesCore m refines new) (λ core bytes. IsKeptEntry m old core new.saved bytes)
    (AreAddressed asked new.setup.n) turn outcome

abbrev pub IsKeptStep : {M Msg : Type 0} → Module Msg → Relation M Msg → Type 0 → Core Msg → Stepped Msg →
    StateView M Msg → StateView M Msg → Result Outcome Why → Type 0
IsKeptStep m refines asked c stepped old new answer =
    IsStepBy (λ turn o. IsKeptTurn m refines asked old turn new o)
    (λ d. StateRefinesCore m refines new d × (new.saved ≡ old.saved)) c stepped answer

abbrev pub IsKeptStepOf : {M Msg : Type 0} → Module Msg → Relation M Msg → Type 0 → StateView M Msg →
    (Formats Msg → Rules → ℕ → Core Msg → Stepped Msg) → StateView M Msg → Result Outcome Why → Type 0
IsKeptStepOf {Msg = Msg} m refines asked old step new answer = (c : Core Msg) → StateRefinesCore m refines old c →
    IsKeptStep m refines asked c (step (formats_of old.setup m) (rules_of old.setup) old.me.0 c) old new answer

-- Set-up and identity are the same, and the log was at most extended.
pub record IsSameLog {M Msg : Type 0} (old new : StateView M Msg) : Type 0 where
  pub setup : new.setup ≡ old.setup
  pub me : new.me ≡ old.me
  pub log : GoesOn old.log.entries new.log.entries

-- The peer that an event names exists.
abbrev pub IsOfNodes : ℕ → NodeEvent → Type 0
IsOfNodes n (On_packet bytes) = Unit {0}
IsOfNodes n On_propose = Unit {0}
IsOfNodes n (On_timeout l) = Unit {0}
IsOfNodes n (On_ask peer) = peer.0 < n

-- ---- the node's answers

-- The event was accepted: the node refines the core after the step. `IsEnteredAnswer` says what it hands out for an
-- epoch that was entered.
abbrev pub IsTurn : {M Msg : Type 0} → Module Msg → Relation M Msg → Type 0 → Stepped Msg → NodeView M Msg →
    Outcome → Type 0
IsTurn {Msg = Msg} m refines asked stepped new outcome =
    IsTakenBy (λ (turn : Turn Msg) o. IsTurnBy (RefinesCore m refines new) (λ core bytes. Unit {0})
    (AreAddressed asked new.state.setup.n) turn o) stepped outcome

-- The event was dropped, and nothing has changed.
abbrev pub IsDrop : {M Msg : Type 0} → Module Msg → Relation M Msg → Core Msg → Stepped Msg → NodeView M Msg → Why →
    Type 0
IsDrop m refines c stepped new why = IsDroppedBy (RefinesCore m refines new) c stepped why

-- The answer to the step of a core that the node refines. Such a node is not stale.
abbrev pub IsAnswer : {M Msg : Type 0} → Module Msg → Relation M Msg → Type 0 → Core Msg → Stepped Msg →
    NodeView M Msg → Answer → Type 0
IsAnswer m refines asked c stepped new (Node_taken outcome) = IsTurn m refines asked stepped new outcome
IsAnswer m refines asked c stepped new (Node_dropped why) = IsDrop m refines c stepped new why
IsAnswer m refines asked c stepped new Node_no_memory = Unit {0}
IsAnswer m refines asked c stepped new Node_stale = ⊥

-- What the answer says of the snapshot that takes the event's place.
abbrev pub IsEnteredAnswer : {M Msg : Type 0} → Module Msg → StateView M Msg → Stepped Msg → StateView M Msg →
    Answer → Type 0
IsEnteredAnswer m old (Step_taken turn) new (Node_taken outcome) =
    IsKeptEntry m old turn.entered new.saved outcome.entered
IsEnteredAnswer m old (Step_dropped why) new (Node_dropped cause) = new.saved ≡ old.saved
IsEnteredAnswer m old stepped new answer = Unit {0}

-- Nothing takes the place of an event that is replayed.
-- rule: Persistence: No snapshot takes the place of an event that is replayed
abbrev pub IsReplayed : Answer → Type 0
IsReplayed (Node_taken outcome) = outcome.entered ≡ None
IsReplayed (Node_dropped why) = Unit {0}
IsReplayed Node_no_memory = Unit {0}
IsReplayed Node_stale = Unit {0}

-- Memory ran out: the node is stale, and reports the log and the epoch that it had.
pub record IsSpoiled {M Msg : Type 0} (old new : NodeView M Msg) : Type 0 where
  pub stale : new.stale ≡ true
  pub log : new.state.log.entries ≡ old.state.log.entries
  pub epoch : new.state.epoch ≡ old.state.epoch

-- What an answer says about any node, stale or not.
-- rule: Runs: A node or a world that ran out of memory says so from then on
abbrev pub IsLeft : {M Msg : Type 0} → NodeView M Msg → NodeView M Msg → Answer → Type 0
IsLeft old new (Node_taken outcome) = Unit {0}
IsLeft old new (Node_dropped why) = Unit {0}
IsLeft old new Node_no_memory = IsSpoiled old new
IsLeft old new Node_stale = (old.stale ≡ true) × (new ≡ old)

-- The node truncated its log to its first slots, set its epoch back, and is stale.
-- rule: Persistence: A node that retreats keeps the given prefix of its log and takes nothing more
pub record HasRetreated {M Msg : Type 0} (old new : NodeView M Msg) (slots e : ℕ) : Type 0 where
  pub stale : new.stale ≡ true
  pub log : new.state.log.entries ≡ take slots old.state.log.entries
  pub epoch : new.state.epoch ≡ e
  pub setup : new.state.setup ≡ old.state.setup
  pub me : new.state.me ≡ old.state.me
