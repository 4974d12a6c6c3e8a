-- What an event promises for a world that refined the run of the events before it: it refines the run with this event.
-- The recovery theorem holds for that run, numbers agree between nodes, the journals show what stays of the events that
-- the run's cores kept, and no leaf signs two statements over all restarts.
use Rattle.std.specs.Prelude.{◌≡◌, ◌⊎◌, ℕ, true, List, [], ◌∷◌, ◌++◌, Option, None, Some, slice_get}
use Rattle.iss_disk.specs.declared.memory.MemoryDisk.{MemoryDisk}
use Rattle.iss_keep.specs.State.{KeptState}
use Rattle.iss_log.specs.LogState.{first_number_of}
use Rattle.iss_model.specs.Frames.{frame_of}
use Rattle.iss_model.specs.Courses.{Course}
use Rattle.iss_model.specs.Disks.{Disk}
use Rattle.iss_model.specs.Run.{Held}
use Rattle.iss_rules.specs.Ends.{End}
use Rattle.iss_rules.specs.declared.events.NodeEvent.{NodeEvent}
use Rattle.iss_request.specs.declared.setups.Setup.{Setup}
use Rattle.iss_theorems.specs.Headline.{IsWhole, course_after, held_after, shown}
use Rattle.iss_schedule.specs.Events.{AreInRange}
use Rattle.iss_schedule.specs.declared.schedules.Event.{Event}
use Rattle.iss_sb.specs.Evidence.{Module, is_correct}
use Rattle.iss_sb.specs.Calls.{Relation}
use Rattle.iss_theorems.specs.Leaves.{SignsOnceEach, life_of}
use Rattle.iss_world.specs.Refines.{RefinesRun, shown_by}
use Rattle.iss_world.specs.State.{WorldState}
use Rattle.iss_world.specs.declared.world.EventResult.{EventResult}
use Rattle.iss_world.specs.declared.world.EventResult.TheVariants.{Done as Result_done, Lost as Result_lost, Forged as Result_forged, Collision as Result_collision, NoMemory, Stale}

-- The world refines the run of these events from the start.
abbrev pub RefinesEvents : {M Msg : Type 0} → Setup → Module Msg → Relation M Msg → WorldState M Msg →
    List Event → Type 0
RefinesEvents s m refines v events = RefinesRun m refines v (course_after s m events)

-- The event did not run out of memory.
abbrev pub IsAnswered : EventResult → Type 0
IsAnswered Result_done = Unit {0}
IsAnswered (Result_lost why) = Unit {0}
IsAnswered (Result_forged by statement sig) = Unit {0}
IsAnswered (Result_collision first second) = Unit {0}
IsAnswered NoMemory = ⊥
IsAnswered Stale = ⊥

-- If two correct nodes have a slot, its first request has the same number at both. That number is the sum of the sizes
-- of all earlier batches.
abbrev pub AgreeOnNumbers : {Msg : Type 0} → Setup → Module Msg → Held Msg → Type 0
AgreeOnNumbers s m h =
    (i j slot k l : ℕ) → is_correct s i ≡ true → is_correct s j ≡ true → first_number_of (shown s m h i) slot ≡ Some k →
    first_number_of (shown s m h j) slot ≡ Some l → k ≡ l

-- No leaf of a core's keys signs two statements, over all crashes and restarts: each used leaf has one statement in the
-- life that events give of which the core's journal shows what stays.
abbrev pub SignOnce : {M Msg : Type 0} → Setup → Module Msg → WorldState M Msg → Type 0
SignOnce {M = M} {Msg = Msg} s m v = (i : ℕ) (g : KeptState M Msg MemoryDisk) →
    slice_get v.simulation.nodes i ≡ Some g → (events : List NodeEvent) → g.entries ≡ shown_by m g.setup g.me.0 events →
    SignsOnceEach (frame_of s m) g.me.0 (life_of (frame_of s m) g.me.0 events)

-- A journal shows what stays of the events that the model's disk keeps: the snapshots that some of them let the node
-- write, and the events behind the last one. After evidence there may be one event more: the one that revealed it, of
-- which nothing came out.
abbrev pub HoldsKept : {Msg : Type 0} → Module Msg → Setup → ℕ → List (List ℕ) → Disk → Option (ℕ × End) → Type 0
HoldsKept m s me entries d None = entries ≡ shown_by m s me d.kept
HoldsKept m s me entries d (Some at) = (entries ≡ shown_by m s me d.kept)
    ⊎ ((event : NodeEvent) × (entries ≡ shown_by m s me (event ∷ d.kept)))

-- So of each core's journal, whether or not the run has stopped. What the cores signed and sent by these events is told
-- by `IsWhole`.
abbrev pub HoldKept : {M Msg : Type 0} → Module Msg → WorldState M Msg → Course Msg → Type 0
HoldKept {M = M} {Msg = Msg} m v p = (i : ℕ) (g : KeptState M Msg MemoryDisk) →
    slice_get v.simulation.nodes i ≡ Some g → HoldsKept m g.setup g.me.0 g.entries (p.state.disks i) p.ended

-- The headline. The world refines the run of these events, up to the evidence that stopped it, if any (`run`). The
-- theorems of composition and recovery hold for that run (`whole`). Correct nodes number requests alike (`numbers`).
-- The journals hold the run's kept events (`journals`), and no leaf signs two statements in them (`leaves`).
-- rule: Runs: After each event the world refines the run with that event
pub record IsHeadline {M Msg : Type 0} (s : Setup) (m : Module Msg) (refines : Relation M Msg)
    (v : WorldState M Msg) (events : List Event) : Type 0 where
  pub run : RefinesEvents s m refines v events
  pub whole : IsWhole s m events
  pub numbers : AgreeOnNumbers s m (held_after s m events)
  pub journals : HoldKept m v (course_after s m events)
  pub leaves : SignOnce s m v

-- If the world refined some events in range, and an event did not run out of memory, the headline holds behind it.
abbrev pub KeepsHeadline : {M Msg : Type 0} → Module Msg → Relation M Msg → (old new : WorldState M Msg) → Event →
    EventResult → Type 0
KeepsHeadline m refines old new event r = (events : List Event) → AreInRange old.simulation.setup events →
    RefinesEvents old.simulation.setup m refines old events → IsAnswered r →
    IsHeadline old.simulation.setup m refines new (events ++ event ∷ [])
