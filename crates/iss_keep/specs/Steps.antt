-- What a kept node answers. `take`: the event was taken with four device calls, was dropped with none, or was taken
-- while the disk failed. The event is kept, or in its place the snapshot of the node that it let enter an epoch.
-- `reopen`: the entries are those of the file, which is brought to rest and loses none of them; a refusal names the
-- damaged place. A crash in between leaves the node as before the event or as after it. Meanwhile a stale node shows
-- the log and epoch from before.
use Rattle.std.specs.Prelude.{◌≡◌, ◌⊎◌, ℕ, Bool, true, false, List, [], ◌∷◌, ◌++◌, take, Some, Result, Ok, Err, IsErr, IsErrOf}
use Rattle.iss_disk.specs.Calls.{Device, HasCause, IfTold, Passes, Runs, StaysHere}
use Rattle.iss_disk.specs.File.{File, settled}
use Rattle.iss_disk.specs.declared.errors.Failed.{Failed}
use Rattle.iss_journal.specs.Frames.{damaged, Reads, version_1}
use Rattle.iss_journal.specs.Promises.{ComesToRest, LeavesWithOrWithout, OnlyLeaves, Shows}
use Rattle.iss_journal.specs.Retained.{retained}
use Rattle.iss_journal.specs.Sound.{IsRead}
use Rattle.iss_journal.specs.declared.errors.AttachError.{AttachError}
use Rattle.iss_journal.specs.declared.errors.AttachError.TheVariants.{Damaged}
use Rattle.iss_model.specs.Node.{Core, Dropped as Step_dropped, Stepped, Taken as Step_taken, Turn}
use Rattle.iss_rebuilt.specs.Reading.{Rebuilt}
use Rattle.iss_rebuilt.specs.Stored.{Stored}
use Rattle.iss_rules.specs.declared.events.NodeEvent.{NodeEvent}
use Rattle.iss_rules.specs.declared.events.Why.{Why}
use Rattle.iss_node.specs.Steps.{IsMade, IsOfNodes}
use Rattle.iss_node.specs.declared.answers.Answer.{Answer as NodeAnswer}
use Rattle.iss_node.specs.declared.answers.Answer.TheVariants.{Dropped as Node_dropped, NoMemory as Node_no_memory, Stale as Node_stale, Taken as Node_taken}
use Rattle.iss_node.specs.declared.answers.Outcome.{Outcome}
use Rattle.iss_request.specs.declared.setups.Setup.{Setup}
use Rattle.iss_sb.specs.Calls.{AreToNodes, Relation}
use Rattle.iss_sb.specs.Evidence.{Module}
use Rattle.iss_keep.specs.Cores.{StopsAt, core_of, step_of, stored_after}
use Rattle.iss_keep.specs.State.{KeptRefinesCore, KeptState, RefinesStored, stored_as}

-- The event was accepted. The node refines the core after the step and releases what the step made. If the event asks
-- only existing peers, every send goes to an existing node.
pub record IsTurn {M Msg D : Type 0} (m : Module Msg) (refines : Relation M Msg) (asked : Type 0)
    (stepped : Stepped Msg) (new : KeptState M Msg D) (outcome : Outcome) : Type 0 where
  pub turn : Turn Msg
  pub step_is : stepped ≡ Step_taken turn
  pub at : KeptRefinesCore m refines new turn.core
  pub made : IsMade turn outcome
  pub addressed : asked → AreToNodes new.setup.n outcome.sends

-- The event was dropped, and nothing has changed.
pub record IsDrop {M Msg D : Type 0} (m : Module Msg) (refines : Relation M Msg) (c : Core Msg)
    (stepped : Stepped Msg) (new : KeptState M Msg D) (why : Why) : Type 0 where
  pub step_is : stepped ≡ Step_dropped why
  pub at : KeptRefinesCore m refines new c

-- The step was accepted.
abbrev pub IsTaken : {Msg : Type 0} → Stepped Msg → Type 0
IsTaken {Msg = Msg} stepped = (turn : Turn Msg) × (stepped ≡ Step_taken turn)

-- The answer to the step of a core that the node refines. `asked` says that the event asks only existing peers.
abbrev pub IsAnswer : {M Msg D : Type 0} → Module Msg → Relation M Msg → Type 0 → Core Msg → Stepped Msg →
    KeptState M Msg D → Result NodeAnswer Failed → Type 0
IsAnswer m refines asked c stepped new (Ok (Node_taken outcome)) = IsTurn m refines asked stepped new outcome
IsAnswer m refines asked c stepped new (Ok (Node_dropped why)) = IsDrop m refines c stepped new why
IsAnswer m refines asked c stepped new (Err failed) = IsTaken stepped
IsAnswer m refines asked c stepped new (Ok Node_stale) = ⊥
IsAnswer m refines asked c stepped new (Ok Node_no_memory) = Unit {0}

-- For each core that the node refines, the answer is that of the model's step.
abbrev pub AnswersEvent : {M Msg D : Type 0} → Module Msg → Relation M Msg → NodeEvent → (old new : KeptState M Msg D) →
    Result NodeAnswer Failed → Type 0
AnswersEvent {Msg = Msg} m refines event old new answer = (c : Core Msg) → KeptRefinesCore m refines old c →
    IsAnswer m refines (IsOfNodes old.setup.n event) c (step_of old.setup m old.me.0 c event) new answer

-- Unless it is stale afterwards, the node stands for what is stored with the event, too.
abbrev pub StoresEvent : {M Msg D : Type 0} → Module Msg → Relation M Msg → NodeEvent → (old new : KeptState M Msg D) →
    Type 0
StoresEvent {Msg = Msg} m refines event old new = (st : Stored Msg) → RefinesStored m refines old st →
    new.stale ≡ false → RefinesStored m refines new (stored_after old.setup m old.me.0 st event)

-- Whether the node has to be reopened after this answer.
abbrev pub makes_stale : Result NodeAnswer Failed → Bool
makes_stale (Ok (Node_taken outcome)) = false
makes_stale (Ok (Node_dropped why)) = false
makes_stale (Err failed) = true
makes_stale (Ok Node_stale) = true
makes_stale (Ok Node_no_memory) = true

-- ---- the disk after an answer

-- What a journal shows after this answer to an event that is kept as this entry. A snapshot drops the events before it.
-- rule: Persistence: A dropped event changes nothing and is not kept
abbrev pub entries_after : List (List ℕ) → List ℕ → Result NodeAnswer Failed → List (List ℕ)
entries_after entries entry (Ok (Node_taken outcome)) = retained (entries ++ entry ∷ [])
entries_after entries entry (Ok (Node_dropped why)) = entries
entries_after entries entry (Err failed) = entries
entries_after entries entry (Ok Node_stale) = entries
entries_after entries entry (Ok Node_no_memory) = entries

-- A crash at any moment of a write leaves the entries, with or without the new one. After `Taken`, every crash image
-- holds the new entry. After `Failed`, the synced part of the file holds the entries without it. No other answer writes
-- to the file.
-- rule: Persistence: An event is kept before its outcome is handed out
abbrev pub Writes : List (List ℕ) → List ℕ → List File → List File → Result NodeAnswer Failed → Type 0
Writes entries entry before now (Ok (Node_taken outcome)) =
    LeavesWithOrWithout version_1 entries entry before now
    × IfTold now (OnlyLeaves (Shows version_1 (retained (entries ++ entry ∷ []))))
Writes entries entry before now (Err failed) =
    LeavesWithOrWithout version_1 entries entry before now × IfTold now (λ file. Shows version_1 entries file.kept)
Writes entries entry before now (Ok (Node_dropped why)) = now ≡ before
Writes entries entry before now (Ok Node_stale) = now ≡ before
Writes entries entry before now (Ok Node_no_memory) = now ≡ before

-- An accepted event takes four calls of the device. If one of them fails, no further call is made.
abbrev pub Calls : Passes → Passes → Result NodeAnswer Failed → Type 0
Calls before now (Ok (Node_taken outcome)) = Runs 4 before now true
Calls before now (Ok (Node_dropped why)) = now ≡ before
Calls before now (Err failed) = Runs 4 before now false
Calls before now (Ok Node_stale) = now ≡ before
Calls before now (Ok Node_no_memory) = now ≡ before

-- The journal and its disk after an answer to an event that is kept as this entry. `later` is what the journal shows
-- then.
-- rule: Persistence: Room for the entry is reserved before the node steps
pub record IsWritten (entries : List (List ℕ)) (entry : List ℕ) (before now : Device) (later : List (List ℕ))
    (answer : Result NodeAnswer Failed) : Type 0 where
  pub added : later ≡ entries_after entries entry answer
  pub file : Writes entries entry before.history now.history answer
  pub device : Calls before.passes now.passes answer
  pub cause : HasCause before.faults now.faults (IsErr answer)
  pub others : StaysHere before.current now.current before.files now.files

-- Whether an entry was written, in whole or in part.
abbrev pub is_appended : Result NodeAnswer Failed → Bool
is_appended (Ok (Node_taken outcome)) = true
is_appended (Ok (Node_dropped why)) = false
is_appended (Err failed) = true
is_appended (Ok Node_stale) = false
is_appended (Ok Node_no_memory) = false

-- What was written for an answer to this event is the event, or the snapshot that takes its place.
-- rule: Persistence: The snapshot of a node that entered an epoch takes the place of the event that ended the last one
pub record IsJournaled {M Msg D : Type 0} (state : D → Device) (m : Module Msg) (refines : Relation M Msg)
    (event : NodeEvent) (old new : KeptState M Msg D) (answer : Result NodeAnswer Failed) : Type 0 where
  pub entry : List ℕ
  pub written : IsWritten old.entries entry (state old.disk) (state new.disk) new.entries answer
  pub right : is_appended answer ≡ true → (st : Stored Msg) → RefinesStored m refines old st →
      (stored_after old.setup m old.me.0 st event).entries ≡ entry ∷ st.entries

-- ---- reopening

-- The journal was attached. It has the entries that the file held, the file's content is settled, and every crash image
-- holds the entries from then on.
pub record IsAttached (before now : Device) (entries : List (List ℕ)) : Type 0 where
  pub read : IfTold before.history (λ file. Shows version_1 entries file.content)
  pub rest : IfTold before.history (λ from. IfTold now.history (ComesToRest from.content))
  pub durable : IfTold now.history (OnlyLeaves (Shows version_1 entries))

-- Either the file is damaged at this offset, or all entries are read and the node refuses the one after this gate.
abbrev pub IsDamaged : {Msg : Type 0} → Setup → Module Msg → ℕ → List (List ℕ) → List File → ℕ → Type 0
IsDamaged s m me entries before at =
    IfTold before (λ file. Reads version_1 file.content (damaged at))
    ⊎ ((gates : List ℕ) × IsRead version_1 entries gates before × StopsAt s m me at entries gates)

-- What a refusal at this offset leaves of the file. A damaged file stays byte for byte. A file that was read, and one
-- of whose entries the node refuses, comes to rest: only what follows its last gate goes. So the next call finds the
-- same.
-- rule: Journal: A damaged file stays byte for byte
abbrev pub IsLeft : List (List ℕ) → List File → List File → ℕ → Type 0
IsLeft entries before now at = IfTold before (λ from.
    (Reads version_1 from.content (damaged at) × IfTold now (λ file. file ≡ settled from.content))
    ⊎ (Shows version_1 entries from.content × IfTold now (ComesToRest from.content)))

-- Reopening was refused at this offset.
pub record IsRefused {Msg : Type 0} (s : Setup) (m : Module Msg) (me : ℕ) (entries : List (List ℕ))
    (before now : Device) (at : ℕ) : Type 0 where
  pub damaged : IsDamaged s m me entries before.history at
  pub left : IsLeft entries before.history now.history at

-- If the answer is damage, this is why, and what is left.
abbrev pub Refuses : {M Msg D T : Type 0} → (D → Device) → Module Msg → (old new : KeptState M Msg D) →
    Result T AttachError → Type 0
Refuses state m old new result = (at : ℕ) → IsErrOf result (Damaged at) →
    IsRefused old.setup m old.me.0 new.entries (state old.disk) (state new.disk) at

-- The node was reopened. It stands for the core that its entries lead to, and these are what the file held.
pub record IsReopened {M Msg D : Type 0} (state : D → Device) (m : Module Msg) (refines : Relation M Msg)
    (old new : KeptState M Msg D) : Type 0 where
  pub core : (found : Rebuilt Msg) × (core_of new.setup m new.me.0 new.entries ≡ Some found)
      × RefinesStored m refines new (stored_as new.entries found)
  pub attached : IsAttached (state old.disk) (state new.disk) new.entries

-- ---- what does not change

-- The node reports the same log and epoch as before.
-- rule: Persistence: A stale node takes nothing and shows the log and epoch from before
pub record ShowsAsBefore {M Msg D : Type 0} (old new : KeptState M Msg D) : Type 0 where
  pub log : new.node.state.log.entries ≡ old.node.state.log.entries
  pub epoch : new.node.state.epoch ≡ old.node.state.epoch

-- Set-up and identity do not change.
pub record IsSame {M Msg D : Type 0} (old new : KeptState M Msg D) : Type 0 where
  pub setup : new.setup ≡ old.setup
  pub me : new.me ≡ old.me

-- In addition a node that has become stale reports the log and epoch from before.
pub record IsSameNode {M Msg D : Type 0} (old new : KeptState M Msg D) : Type 0 where
  pub same : IsSame old new
  pub shown : new.stale ≡ true → ShowsAsBefore old new

-- Only its disk has changed, and whether it is stale.
pub record OnlyDisk {M Msg D : Type 0} (old new : KeptState M Msg D) : Type 0 where
  pub node : new.node ≡ old.node
  pub entries : new.entries ≡ old.entries
  pub same : IsSame old new

-- The node went back to its first slots and an earlier epoch, and has to be reopened.
pub record HasRetreated {M Msg D : Type 0} (old new : KeptState M Msg D) (slots e : ℕ) : Type 0 where
  pub stale : new.stale ≡ true
  pub log : new.node.state.log.entries ≡ take slots old.node.state.log.entries
  pub epoch : new.node.state.epoch ≡ e
  pub journal : (new.disk ≡ old.disk) × (new.entries ≡ old.entries)
  pub same : IsSame old new

-- ---- what it reports

-- This is reported of each core that the node refines, and that while it is stale.
pub record Reports {M Msg D : Type 0} (m : Module Msg) (refines : Relation M Msg) (v : KeptState M Msg D)
    (Fits : Core Msg → Type 0) (IfStale : Type 0) : Type 0 where
  pub is : (c : Core Msg) → KeptRefinesCore m refines v c → Fits c
  pub stale : v.stale ≡ true → IfStale
