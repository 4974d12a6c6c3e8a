-- What the two halves of a journaled event leave: the step of the node, and the append of its entry. The step's
-- outcome is handed out only with its entry; else the node retreats to the log and epoch from before.
use Rattle.std.specs.Prelude.{◌≡◌, ℕ, ◌≤◌, true, false, List, length, Option, None, Some, Result, Ok, Err, OnOk, IsErrOf}
use Rattle.iss_disk.specs.Calls.{Device}
use Rattle.iss_disk.specs.declared.errors.EndError.{EndError}
use Rattle.iss_disk.specs.declared.errors.Failed.{Failed}
use Rattle.iss_disk.specs.declared.errors.EndError.TheVariants.{Failed as Disk_failed, NoMemory as Disk_no_memory}
use Rattle.iss_journal.specs.Frames.{max_entry}
use Rattle.iss_journal.specs.Sound.{JournalState}
use Rattle.iss_rules.specs.Concrete.{rules_of}
use Rattle.iss_rules.specs.Formats.{formats_of}
use Rattle.iss_model.specs.Frames.{frame_of, step_in}
use Rattle.iss_model.specs.Node.{Core, Taken as Step_taken, Turn, step}
use Rattle.iss_rules.specs.Setups.{IsSetupOf}
use Rattle.iss_rules.specs.declared.events.NodeEvent.{NodeEvent}
use Rattle.iss_node.specs.Saved.{saved_of}
use Rattle.iss_node.specs.State.{NodeView, RefinesCore}
use Rattle.iss_node.specs.Steps.{HasRetreated, IsAnswer, IsOfNodes}
use Rattle.iss_node.specs.declared.answers.Answer.{Answer as NodeAnswer}
use Rattle.iss_node.specs.declared.answers.Answer.TheVariants.{Dropped as Node_dropped, NoMemory as Node_no_memory, Stale as Node_stale, Taken as Node_taken}
use Rattle.iss_node.specs.declared.answers.Outcome.{Outcome}
use Rattle.iss_sb.specs.Calls.{Relation}
use Rattle.iss_sb.specs.Evidence.{Module}
use Rattle.iss_rebuilt.specs.Stored.{Kept, kept_of}
use Rattle.iss_keep.specs.Entries.{spell_event}
use Rattle.iss_keep.specs.Steps.{IsTaken, IsWritten, makes_stale}

-- This answer is right for the step of each core that the node refines.
abbrev pub Answers : {M Msg : Type 0} → Module Msg → Relation M Msg → NodeEvent → NodeView M Msg → NodeView M Msg →
    NodeAnswer → Type 0
Answers {Msg = Msg} m refines event old new answer = (c : Core Msg) → RefinesCore m refines old c →
    IsAnswer m refines (IsOfNodes old.state.setup.n event) c
    (step (formats_of old.state.setup m) (rules_of old.state.setup) m old.state.me.0 c event) new answer

-- The node reports the same log and epoch as before.
pub record ShowsSame {M Msg : Type 0} (old new : NodeView M Msg) : Type 0 where
  pub log : new.state.log.entries ≡ old.state.log.entries
  pub epoch : new.state.epoch ≡ old.state.epoch

-- Each core that the node refines accepts the event.
abbrev pub Takes : {M Msg : Type 0} → Module Msg → Relation M Msg → NodeEvent → NodeView M Msg → Type 0
Takes {Msg = Msg} m refines event old = (c : Core Msg) → RefinesCore m refines old c →
    IsTaken (step (formats_of old.state.setup m) (rules_of old.state.setup) m old.state.me.0 c event)

-- What is appended for an event with this entry: the snapshot that takes its place, if there is one.
abbrev pub entry_kept : Option (List ℕ) → List ℕ → List ℕ
entry_kept None own = own
entry_kept (Some snapshot) own = snapshot

abbrev pub entry_made : NodeAnswer → List ℕ → List ℕ
entry_made (Node_taken outcome) own = entry_kept outcome.entered own
entry_made (Node_dropped why) own = own
entry_made Node_no_memory own = own
entry_made Node_stale own = own

-- What the event is kept as, after this turn of a node in this state.
abbrev pub kept_at : {M Msg : Type 0} → Module Msg → NodeView M Msg → NodeEvent → Turn Msg → Kept
kept_at m v event turn =
    kept_of (frame_of v.state.setup m) v.state.me.0 (saved_of v.state.saved) (spell_event event) turn

-- The entry is what the event is kept as, for the turn of each core that the node refines. And the node has noted the
-- snapshot, if it is one.
abbrev pub IsKeptAs : {M Msg : Type 0} → Module Msg → Relation M Msg → NodeEvent → NodeView M Msg → List ℕ → Type 0
IsKeptAs {Msg = Msg} m refines event old entry = (c : Core Msg) (turn : Turn Msg) → RefinesCore m refines old c →
    step_in (frame_of old.state.setup m) old.state.me.0 c event ≡ Step_taken turn →
    entry ≡ (kept_at m old event turn).entry

abbrev pub HasNoted : {M Msg : Type 0} → Module Msg → Relation M Msg → NodeEvent → (old new : NodeView M Msg) → Type 0
HasNoted {Msg = Msg} m refines event old new = (c : Core Msg) (turn : Turn Msg) → RefinesCore m refines old c →
    step_in (frame_of old.state.setup m) old.state.me.0 c event ≡ Step_taken turn →
    saved_of new.state.saved ≡ (kept_at m old event turn).saved

-- The state of the node after an event of which this entry is kept, by answer.
abbrev pub HasStepped : {M Msg : Type 0} → Module Msg → Relation M Msg → NodeEvent → (old new : NodeView M Msg) →
    List ℕ → Result NodeAnswer Failed → Type 0
HasStepped m refines event old new entry (Ok (Node_taken outcome)) = Answers m refines event old new (Node_taken outcome)
    × IsKeptAs m refines event old entry × HasNoted m refines event old new
HasStepped m refines event old new entry (Ok (Node_dropped why)) = Answers m refines event old new (Node_dropped why)
    × (saved_of new.state.saved ≡ saved_of old.state.saved)
HasStepped m refines event old new entry (Err failed) =
    ShowsSame old new × Takes m refines event old × IsKeptAs m refines event old entry
HasStepped m refines event old new entry (Ok Node_stale) = ⊥
HasStepped m refines event old new entry (Ok Node_no_memory) = ShowsSame old new

-- If the entry was appended, the outcome is released and the node stays as it is. Otherwise the node retreats.
abbrev pub HasEnded : {M Msg : Type 0} → Outcome → ℕ → ℕ → NodeView M Msg → NodeView M Msg → Result NodeAnswer Failed → Type 0
HasEnded outcome slots epoch old new (Ok (Node_taken given)) = (given ≡ outcome) × (new ≡ old)
HasEnded outcome slots epoch old new (Ok (Node_dropped why)) = ⊥
HasEnded outcome slots epoch old new (Err failed) = HasRetreated old new slots epoch
HasEnded outcome slots epoch old new (Ok Node_stale) = ⊥
HasEnded outcome slots epoch old new (Ok Node_no_memory) = HasRetreated old new slots epoch

-- What the caller receives, given the node's answer and the result of the append. An event that was not accepted is not
-- appended.
abbrev pub released : {A : Type 0} → NodeAnswer → Result A EndError → Result NodeAnswer Failed
released made (Ok x) = Ok made
released made (Err Disk_failed) = Err (record {})
released made (Err Disk_no_memory) = Ok Node_no_memory

-- ---- what each of the four functions needs and leaves

-- An entry of these bytes may be appended.
pub record MayAppend {D : Type 0} (journal : JournalState D) (bytes : List ℕ) : Type 0 where
  pub attached : journal.attached ≡ true
  pub short : length bytes ≤ max_entry

-- The entry of an event was appended, or the snapshot that takes its place. Unless memory ran out, the outcome still
-- has its snapshot.
pub record HasAppended {D T : Type 0} (state : D → Device) (own : List ℕ) (entered later : Option (List ℕ))
    (old new : JournalState D) (result : Result T EndError) : Type 0 where
  pub written : (outcome : Outcome) →
      IsWritten old.entries (entry_kept later own) (state old.disk) (state new.disk) new.entries
      (released (Node_taken outcome) result)
  pub same : (IsErrOf result Disk_no_memory → ⊥) → later ≡ entered
  pub attached : OnOk result (new.attached ≡ true)

-- An entry of these bytes may be appended, and the node may go back to this number of slots and this epoch.
pub record MayEnd {M Msg D : Type 0} (journal : JournalState D) (bytes : List ℕ) (v : NodeView M Msg) (n e : ℕ) :
    Type 0 where
  pub append : MayAppend journal bytes
  pub slots : n ≤ length v.state.log.entries
  pub epoch : e ≤ v.state.epoch

-- The node refines a core over a good set-up, and its journal is attached.
pub record MayStep {M Msg D : Type 0} (m : Module Msg) (refines : Relation M Msg) (v : NodeView M Msg)
    (journal : JournalState D) : Type 0 where
  pub good : IsSetupOf m v.state.setup
  pub core : (c : Core Msg) × RefinesCore m refines v c
  pub attached : journal.attached ≡ true

-- The node stepped, and what is kept of the event was appended.
pub record HasJournaled {M Msg D T : Type 0} (state : D → Device) (m : Module Msg) (refines : Relation M Msg)
    (event : NodeEvent) (old new : NodeView M Msg) (before now : JournalState D) (made : NodeAnswer)
    (result : Result T EndError) : Type 0 where
  pub written : IsWritten before.entries (entry_made made (spell_event event)) (state before.disk) (state now.disk)
      now.entries (released made result)
  pub stepped : HasStepped m refines event old new (entry_made made (spell_event event)) (released made result)
  pub attached : makes_stale (released made result) ≡ false → now.attached ≡ true
  pub same : (new.state.setup ≡ old.state.setup) × (new.state.me ≡ old.state.me)
