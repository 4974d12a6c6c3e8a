-- When a simulation and a world refine a run with disk failures and restarts, and what an event made of it. A kept
-- node refines a core over its disk: it is at the core, or its disk has failed and it shows the core's log and epoch.
-- Its journal shows what stays of the events that the disk keeps. The networks are the same, and the books hold what
-- the run's hold.
use Rattle.std.specs.Prelude.{◌≡◌, ◌≢◌, ◌⊎◌, ◌↔◌, ℕ, ◌||◌, Bool, true, false, List, [], ◌∷◌, length, Option, Some, None, option_map, reverse, slice_get}
use Rattle.iss_rules.specs.Ends.{End, Forged, Collision}
use Rattle.iss_rules.specs.declared.events.NodeEvent.{NodeEvent}
use Rattle.iss_disk.specs.Calls.{IfTold, Passes, script, up_to}
use Rattle.iss_disk.specs.MemoryViews.{calls_of}
use Rattle.iss_disk.specs.StoredViews.{history_of}
use Rattle.iss_disk.specs.declared.memory.MemoryDisk.{MemoryDisk}
use Rattle.iss_journal.specs.Frames.{version_1}
use Rattle.iss_journal.specs.Promises.{Shows}
use Rattle.iss_keep.specs.Cores.{shown_of, stored_of}
use Rattle.iss_keep.specs.Recovery.{AreNamed}
use Rattle.iss_keep.specs.State.{KeptRefinesCore, KeptState}
use Rattle.iss_model.specs.Node.{Core, initial_core}
use Rattle.iss_model.specs.Run.{Held, node_of}
use Rattle.iss_node.specs.Saved.{saved_of}
use Rattle.iss_request.specs.declared.requests.Value.{Value}
use Rattle.iss_request.specs.declared.setups.Setup.{Setup}
use Rattle.iss_schedule.specs.declared.schedules.Event.{Event}
use Rattle.iss_theorems.specs.Readers.{is_reader, reader_at, reader_of}
use Rattle.iss_model.specs.Courses.{Course, Machines, core_of as core_of_kept, driver_of}
use Rattle.iss_model.specs.Disks.{Disk, new_disk}
use Rattle.iss_model.specs.Driver.{Driver, Upshot, apply_event, run_event_if_open}
use Rattle.iss_rules.specs.Concrete.{rules_of}
use Rattle.iss_rules.specs.Formats.{formats_of}
use Rattle.iss_rules.specs.Past.{log_of}
use Rattle.iss_sb.specs.Calls.{Relation}
use Rattle.iss_sb.specs.Evidence.{Module}
use Rattle.iss_world.specs.Books.{AreHashed, AreSigned}
use Rattle.iss_world.specs.State.{SimulationState, WorldState}
use Rattle.iss_world.specs.declared.ends.EventOutcome.{EventOutcome}
use Rattle.iss_world.specs.declared.ends.EventOutcome.TheVariants.{Done, Lost, Ended}
use Rattle.iss_world.specs.declared.ends.Evidence.{Evidence}
use Rattle.iss_world.specs.declared.ends.Evidence.TheVariants.{Forged as Evidence_forged, Collision as Evidence_collision}
use Rattle.iss_world.specs.declared.world.EventResult.{EventResult}
use Rattle.iss_world.specs.declared.world.EventResult.TheVariants.{Done as Result_done, Lost as Result_lost, Forged as Result_forged, Collision as Result_collision, NoMemory, Stale}

-- ---- one core

-- The results of a disk's coming calls, given its budget. `None` means that none fails.
abbrev pub calls_to_come : Option ℕ → Passes
calls_to_come None = script []
calls_to_come (Some calls) = up_to calls

-- What the journal of node `me` shows of the events that it keeps. Events are newest first, entries oldest first.
abbrev pub shown_by : {Msg : Type 0} → Module Msg → Setup → ℕ → List NodeEvent → List (List ℕ)
shown_by m s me events = shown_of (stored_of s m me events)

-- The kept node reports the log and the epoch of this core of node `me`.
pub record ShowsCore {M Msg : Type 0} (m : Module Msg) (s : Setup) (me : ℕ) (g : KeptState M Msg MemoryDisk)
    (c : Core Msg) : Type 0 where
  pub log : log_of (rules_of s) m me c.past ≡ reverse g.node.state.log.entries
  pub epoch : g.node.state.epoch ≡ c.past.epoch

-- The kept node refines the core, including the next leaf. After its disk failed it is stale, and only reports the
-- core's log and epoch.
abbrev pub RefinesOrShowsCore : {M Msg : Type 0} → Module Msg → Relation M Msg → KeptState M Msg MemoryDisk → Core Msg →
    (failed : Bool) → Type 0
RefinesOrShowsCore m refines g c false = KeptRefinesCore m refines g c
RefinesOrShowsCore m refines g c true = (g.stale ≡ true) × ShowsCore m g.setup g.me.0 g c

-- The kept node refines a core with a disk. Its journal shows what stays of the events on the disk, each of which names
-- existing nodes. They lead to the core, and what they stored is synced. Unless the disk has failed, the node's next
-- snapshot goes on where the last of theirs ended.
pub record RefinesMachine {M Msg : Type 0} (m : Module Msg) (refines : Relation M Msg)
    (g : KeptState M Msg MemoryDisk) (c : Core Msg) (d : Disk) : Type 0 where
  pub there : RefinesOrShowsCore m refines g c d.failed
  pub entries : g.entries ≡ shown_by m g.setup g.me.0 d.kept
  pub named : AreNamed g.setup.n d.kept
  pub made : core_of_kept (formats_of g.setup m) (rules_of g.setup) m g.me.0 d.kept ≡ c
  pub saved : d.failed ≡ false → saved_of g.node.state.saved ≡ (stored_of g.setup m g.me.0 d.kept).saved
  pub synced : IfTold (history_of g.disk.file) (λ file. Shows version_1 g.entries file.kept)
  pub calls : calls_of g.disk ≡ calls_to_come d.passes

-- Its journal shows what stays of these events, they lead to this core, whose epoch the node shows, and the file's
-- content holds what they stored.
pub record LeadsBy {M Msg : Type 0} (m : Module Msg) (g : KeptState M Msg MemoryDisk) (events : List NodeEvent)
    (c : Core Msg) : Type 0 where
  pub entries : g.entries ≡ shown_by m g.setup g.me.0 events
  pub named : AreNamed g.setup.n events
  pub made : core_of_kept (formats_of g.setup m) (rules_of g.setup) m g.me.0 events ≡ c
  pub epoch : g.node.state.epoch ≡ c.past.epoch
  pub read : IfTold (history_of g.disk.file) (λ file. Shows version_1 g.entries file.content)

-- ---- all cores

-- The log of a core, newest value first.
abbrev pub log_at : {Msg : Type 0} → Setup → Module Msg → Held Msg → ℕ → List Value
log_at s m h i = log_of (rules_of s) m (node_of s i) (h.net.cores i).past

-- Each kept node refines its core with its disk, the network is the model's, and so are the recorded claims and
-- strings.
pub record RefinesMachines {M Msg : Type 0} (m : Module Msg) (refines : Relation M Msg) (v : SimulationState M Msg)
    (w : Machines Msg) : Type 0 where
  pub cores : (i : ℕ) (g : KeptState M Msg MemoryDisk) → slice_get v.nodes i ≡ Some g →
      RefinesMachine m refines g (w.held.net.cores i) (w.disks i)
  pub network : v.network ≡ w.held.net.network
  pub signed : AreSigned v.signed w.held.signed
  pub hashed : AreHashed v.hashed w.held.hashed

-- A kept node that read or took the event that revealed the evidence. It went back to the core from before that event:
-- it is stale, and reports the core's log and epoch. Its journal shows what stays of the events that the model's disk
-- keeps, and of that event behind them if the node took it.
pub record HasRetreated {M Msg : Type 0} (m : Module Msg) (s : Setup) (me : ℕ) (g : KeptState M Msg MemoryDisk)
    (c : Core Msg) (d : Disk) : Type 0 where
  pub stale : g.stale ≡ true
  pub shows : ShowsCore m s me g c
  pub entries : (g.entries ≡ shown_by m g.setup g.me.0 d.kept)
      ⊎ ((event : NodeEvent) × (g.entries ≡ shown_by m g.setup g.me.0 (event ∷ d.kept)))

-- The kept node refines this core with its disk, or has retreated to it.
abbrev pub RefinesOrRetreated : {M Msg : Type 0} → Module Msg → Relation M Msg → Setup → ℕ →
    KeptState M Msg MemoryDisk → Core Msg → Disk → Type 0
RefinesOrRetreated m refines s me g c d = RefinesMachine m refines g c d ⊎ HasRetreated m s me g c d

-- What evidence leaves of a simulation. All kept nodes refine their cores, but for the one whose event revealed it:
-- that one has retreated. The network is the model's, and so are the recorded claims.
pub record IsLeft {M Msg : Type 0} (m : Module Msg) (refines : Relation M Msg) (v : SimulationState M Msg)
    (w : Machines Msg) : Type 0 where
  pub core : ℕ
  pub others : (i : ℕ) (g : KeptState M Msg MemoryDisk) → slice_get v.nodes i ≡ Some g → i ≢ core →
      RefinesMachine m refines g (w.held.net.cores i) (w.disks i)
  pub there : (g : KeptState M Msg MemoryDisk) → slice_get v.nodes core ≡ Some g →
      HasRetreated m v.setup (node_of v.setup core) g (w.held.net.cores core) (w.disks core)
  pub network : v.network ≡ w.held.net.network
  pub signed : AreSigned v.signed w.held.signed

-- Evidence left the simulation so, and this core read it.
abbrev pub IsLeftBy : {M Msg : Type 0} → Module Msg → Relation M Msg → Option ℕ → SimulationState M Msg →
    Machines Msg → Type 0
IsLeftBy m refines reader v w = (left : IsLeft m refines v w) × (reader ≡ Some left.core)

-- The simulation refines these machines, or evidence left it so.
abbrev pub RefinesOrShows : {M Msg : Type 0} → Module Msg → Relation M Msg → SimulationState M Msg →
    Machines Msg → Type 0
RefinesOrShows m refines v w = RefinesMachines m refines v w ⊎ IsLeft m refines v w

-- What is said of the machines that the simulation refines or shows.
abbrev pub InMachines : {M Msg : Type 0} → Module Msg → Relation M Msg → SimulationState M Msg →
    (Machines Msg → Type 0) → Type 0
InMachines {Msg = Msg} m refines v P = (w : Machines Msg) → RefinesOrShows m refines v w → P w

-- The model's evidence.
abbrev pub end_of : Evidence → End
end_of (Evidence_forged claim) = Forged claim
end_of (Evidence_collision first second) = Collision first second

-- The simulation refines the state after the event, with its reason of loss if it was lost. If the event revealed
-- evidence, all of the simulation but the core that read it still refines the state from before that delivery.
abbrev pub HasChanged : {M Msg : Type 0} → Module Msg → Relation M Msg → Option ℕ → SimulationState M Msg →
    Upshot (Machines Msg) → EventOutcome → Type 0
HasChanged m refines reader v d Done = RefinesMachines m refines v d.state × (d.lost ≡ None) × (d.ended ≡ None)
HasChanged m refines reader v d (Lost why) = RefinesMachines m refines v d.state × (d.lost ≡ Some why)
    × (d.ended ≡ None)
HasChanged m refines reader v d (Ended end) = IsLeftBy m refines reader v d.state × (d.lost ≡ None)
    × (d.ended ≡ Some (end_of end))

-- After a call the simulation refines what the driver makes of any machines that it refined: this change, in whose
-- course this core, if any, read the evidence that stops the run.
abbrev pub Follows : {M Msg : Type 0} → Module Msg → Relation M Msg → SimulationState M Msg → SimulationState M Msg →
    (Driver (Machines Msg) → Machines Msg → Option ℕ) →
    (Driver (Machines Msg) → Machines Msg → Upshot (Machines Msg)) → EventOutcome → Type 0
Follows {Msg = Msg} m refines old new reader change r = (w : Machines Msg) → RefinesMachines m refines old w →
    HasChanged m refines (reader (driver_of old.setup m) w) new (change (driver_of old.setup m) w) r

-- No core, or this core, reads evidence.
abbrev pub by_none : {Msg : Type 0} → Driver (Machines Msg) → Machines Msg → Option ℕ
by_none W w = None

abbrev pub by_core : {Msg : Type 0} → ℕ → Driver (Machines Msg) → Machines Msg → Option ℕ
by_core core W w = Some core

-- The simulation refines some state of the model.
abbrev pub RefinesSome : {M Msg : Type 0} → Module Msg → Relation M Msg → SimulationState M Msg → Type 0
RefinesSome {Msg = Msg} m refines v = (w : Machines Msg) × RefinesMachines m refines v w

-- A kept node for core c of this set-up that has taken no event, over a new disk.
pub record IsFresh {M Msg : Type 0} (m : Module Msg) (refines : Relation M Msg) (s : Setup) (c : ℕ)
    (g : KeptState M Msg MemoryDisk) : Type 0 where
  pub refined : RefinesMachine m refines g initial_core new_disk
  pub setup : g.setup ≡ s
  pub place : g.me.0 ≡ node_of s c

-- The first k cores, none of which has taken an event.
pub record AreFresh {M Msg : Type 0} (m : Module Msg) (refines : Relation M Msg)
    (s : Setup) (k : ℕ) (nodes : List (KeptState M Msg MemoryDisk)) : Type 0 where
  pub count : length nodes ≡ k
  pub each : (i : ℕ) (g : KeptState M Msg MemoryDisk) → slice_get nodes i ≡ Some g → IsFresh m refines s i g

-- The world refines these machines: its run goes on, and memory has sufficed.
pub record WorldRefinesMachines {M Msg : Type 0} (m : Module Msg) (refines : Relation M Msg) (v : WorldState M Msg)
    (w : Machines Msg) : Type 0 where
  pub fresh : v.stale ≡ false
  pub goes_on : v.ended ≡ None
  pub simulation : RefinesMachines m refines v.simulation w

-- The run has stopped with this evidence, and the world is as it was before, but for the node that took the last event.
-- rule: Evidence: A world whose run has ended repeats its evidence and shows the state before it
pub record HasEnded {M Msg : Type 0} (m : Module Msg) (refines : Relation M Msg) (v : WorldState M Msg)
    (w : Machines Msg) (end : End) : Type 0 where
  pub fresh : v.stale ≡ false
  pub ended : option_map end_of v.ended ≡ Some end
  pub left : IsLeft m refines v.simulation w

abbrev pub RefinesRunUntil : {M Msg : Type 0} → Module Msg → Relation M Msg → WorldState M Msg → Machines Msg →
    Option (ℕ × End) → Type 0
RefinesRunUntil m refines v w None = WorldRefinesMachines m refines v w
RefinesRunUntil m refines v w (Some at) = HasEnded m refines v w at.1

-- The world refines this run, stopped or not.
abbrev pub RefinesRun : {M Msg : Type 0} → Module Msg → Relation M Msg → WorldState M Msg → Course Msg → Type 0
RefinesRun m refines v p = RefinesRunUntil m refines v p.state p.ended

-- What is said of the run that the world refines, stopped or not.
abbrev pub InRun : {M Msg : Type 0} → Module Msg → Relation M Msg → WorldState M Msg → (Course Msg → Type 0) → Type 0
InRun {Msg = Msg} m refines v P = (p : Course Msg) → RefinesRun m refines v p → P p

-- What is said of a core while its disk works.
abbrev pub IfWorks : {M Msg : Type 0} → Module Msg → Relation M Msg → WorldState M Msg → ℕ → (Core Msg → Type 0) →
    Type 0
IfWorks {Msg = Msg} m refines v core P = (w : Machines Msg) → WorldRefinesMachines m refines v w →
    (w.disks core).failed ≡ false → P (w.held.net.cores core)

-- A core's kept node is stale exactly where its disk has failed, or where it read the evidence that ended the run.
-- rule: Evidence: Of all cores the one that read the evidence is stale, and those whose disk has failed
abbrev pub AreStale : {M Msg : Type 0} → WorldState M Msg → Machines Msg → Option ℕ → Type 0
AreStale {M = M} {Msg = Msg} v w reader = (i : ℕ) (g : KeptState M Msg MemoryDisk) →
    slice_get v.simulation.nodes i ≡ Some g → g.stale ≡ ((w.disks i).failed || is_reader reader i)

-- So after one more event of a run that had not ended.
abbrev pub AreStaleBehind : {M Msg : Type 0} → Driver (Machines Msg) → Course Msg → Event → WorldState M Msg → Type 0
AreStaleBehind W p e v =
    let d = apply_event W p.state e in
    AreStale v d.state (reader_at d.ended (reader_of W p.state e) None)

-- A world that has not run out of memory.
abbrev pub awake : {M Msg : Type 0} → SimulationState M Msg → Option Evidence → WorldState M Msg
awake v end = record { simulation = v; ended = end; stale = false }

-- The result of every event once this evidence has stopped the run.
abbrev pub result_of : Evidence → EventResult
result_of (Evidence_forged claim) = Result_forged claim.by claim.statement claim.sig
result_of (Evidence_collision first second) = Result_collision first second

abbrev pub why_ended : Option (ℕ × End) → Option End
why_ended None = None
why_ended (Some at) = Some at.1

-- What a result says about the run before and after an event. The world refines the run after it, and the result is the
-- loss or the evidence that the run notes. After `NoMemory` the world is stale. A world that refines a run never
-- answers `Stale`.
abbrev pub HasHappened : {M Msg : Type 0} → Module Msg → Relation M Msg → WorldState M Msg → Course Msg → Course Msg →
    EventResult → Type 0
HasHappened m refines v old new Result_done = RefinesRun m refines v new × (new.ended ≡ None) × (new.drops ≡ old.drops)
HasHappened m refines v old new (Result_lost why) = RefinesRun m refines v new × (new.ended ≡ None)
    × (new.drops ≡ (old.event, why) ∷ old.drops)
HasHappened m refines v old new (Result_forged by statement sig) =
    RefinesRun m refines v new
    × (why_ended new.ended ≡ Some (Forged (record { by = by; statement = statement; sig = sig })))
HasHappened m refines v old new (Result_collision first second) = RefinesRun m refines v new
    × (why_ended new.ended ≡ Some (Collision first second))
HasHappened m refines v old new NoMemory = v.stale ≡ true
HasHappened m refines v old new Stale = ⊥

-- A world answers `Stale` if and only if it is stale, and then it does not change. It becomes stale by `NoMemory`, and
-- by no other answer.
pub record IsStaleOr {M Msg : Type 0} (old new : WorldState M Msg) (r : EventResult) : Type 0 where
  pub exactly : (r ≡ Stale) ↔ (old.stale ≡ true)
  pub same : old.stale ≡ true → new ≡ old
  pub out : r ≡ NoMemory → new.stale ≡ true
  pub only : new.stale ≡ true → (r ≡ NoMemory) ⊎ (r ≡ Stale)

-- Nothing changes after the run has stopped.
pub record IsOverOr {M Msg : Type 0} (old new : WorldState M Msg) : Type 0 where
  pub simulation : (end : Evidence) → old.ended ≡ Some end → new.simulation ≡ old.simulation
  pub ended : (end : Evidence) → old.ended ≡ Some end → new.ended ≡ old.ended

-- The world refines the run that it refined with this event added, unless that had ended.
abbrev pub RunsEvent : {M Msg : Type 0} → Module Msg → Relation M Msg → (old new : WorldState M Msg) → Event →
    EventResult → Type 0
RunsEvent m refines old new event r = InRun m refines old (λ p. HasHappened m refines new p
    (run_event_if_open p.ended (driver_of old.simulation.setup m) p event) r)

-- An event of a run that had not ended leaves only those cores stale whose disk has failed, and who read evidence.
abbrev pub LeavesStale : {M Msg : Type 0} → Module Msg → Relation M Msg → (old new : WorldState M Msg) → Event → Type 0
LeavesStale m refines old new event = InRun m refines old (λ p. p.ended ≡ None →
    AreStaleBehind (driver_of old.simulation.setup m) p event new)

-- In a run, stopped or not, the kept node of this core refines it, or has retreated to it.
abbrev pub IsLeftNode : {M Msg : Type 0} → Module Msg → Relation M Msg → WorldState M Msg → ℕ →
    KeptState M Msg MemoryDisk → Course Msg → Type 0
IsLeftNode m refines v core g p = RefinesOrRetreated m refines v.simulation.setup (node_of v.simulation.setup core) g
    (p.state.held.net.cores core) (p.state.disks core)

-- ---- a recovered node

-- The node's entries lead to some core.
abbrev pub HasLed : {M Msg : Type 0} → Module Msg → KeptState M Msg MemoryDisk → Type 0
HasLed {Msg = Msg} m g = (events : List NodeEvent) × (c : Core Msg) × LeadsBy m g events c

-- The node refines the core that its entries led to, over a disk that works.
abbrev pub IsMadeAnew : {M Msg : Type 0} → Module Msg → Relation M Msg → (old new : KeptState M Msg MemoryDisk) → Type 0
IsMadeAnew {Msg = Msg} m refines old new = (events : List NodeEvent) (c : Core Msg) → LeadsBy m old events c →
    RefinesMachine m refines new c (record { kept = events; passes = None; failed = false })
