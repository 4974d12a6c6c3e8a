-- One step of a core in the world: test what it claims, step and journal, test what it made, book it and post it.
-- Where the disk fails nothing of the step comes out.
use Rattle.std.specs.Prelude.{◌≡◌, ◌≤◌, ℕ, true, false, cond, List, Option, Some, None, length, option_map, reverse, slice_get, take, Result, Ok, Err}
use Rattle.iss_node.specs.declared.answers.Answer.TheVariants.{Dropped as Node_dropped, NoMemory as Node_no_memory, Stale as Node_stale, Taken as Node_taken}
use Rattle.iss_node.specs.declared.answers.Answer.{Answer as NodeAnswer}
use Rattle.iss_disk.specs.declared.errors.Failed.{Failed}
use Rattle.iss_base.specs.Lists.{first_of, set_at}
use Rattle.iss_rules.specs.Ends.{End, Forged}
use Rattle.iss_rules.specs.declared.events.NodeEvent.{NodeEvent}
use Rattle.iss_rules.specs.declared.events.Why.TheVariants.{Stopped}
use Rattle.iss_disk.specs.declared.memory.MemoryDisk.{MemoryDisk}
use Rattle.iss_keep.specs.State.{KeptState}
use Rattle.iss_model.specs.Node.{Core, Dropped, Stepped, Taken, Turn}
use Rattle.iss_model.specs.Run.{Held, after_step, by_forged, collision_in, early_of, first_forged, node_of}
use Rattle.iss_model.specs.Frames.{frame_of, step_in}
use Rattle.iss_node.specs.Steps.{IsMade, IsOfNodes}
use Rattle.iss_node.specs.declared.answers.Outcome.{Outcome}
use Rattle.iss_request.specs.declared.setups.Setup.{Setup}
use Rattle.iss_model.specs.Courses.{Machines, with_disk, with_disks}
use Rattle.iss_model.specs.Disks.{Disk, fails, keeps, may_keep}
use Rattle.iss_model.specs.Driver.{Upshot, lost_by}
use Rattle.iss_rules.specs.Books.{Signed}
use Rattle.iss_rules.specs.Concrete.{rules_of}
use Rattle.iss_rules.specs.Past.{log_of}
use Rattle.iss_sb.specs.Calls.{Relation}
use Rattle.iss_sb.specs.Evidence.{Module}
use Rattle.iss_sb.specs.declared.effects.Claim.{Claim}
use Rattle.iss_world.specs.Books.{AreHashed, AreSigned}
use Rattle.iss_world.specs.Refines.{HasChanged, IsLeftBy, RefinesMachine, RefinesMachines, end_of}
use Rattle.iss_world.specs.State.{SimulationState}
use Rattle.iss_world.specs.declared.ends.EventOutcome.{EventOutcome}
use Rattle.iss_world.specs.declared.ends.Evidence.{Evidence}

-- The effect of a step of core c whose own claims were tested. The claims in messages that arrived early are tested
-- next, then the strings that were hashed.
abbrev pub stepped_to : {Msg : Type 0} → Setup → Held Msg → ℕ → Stepped Msg → Upshot (Held Msg)
stepped_to s h c stepped = by_forged (first_forged s (rules_of s) h.signed (early_of stepped)) h
    (after_step s h c stepped)

-- The simulation refines some state in which the disk of core c has not failed.
abbrev pub IsWorking : {M Msg : Type 0} → Module Msg → Relation M Msg → SimulationState M Msg → ℕ → Type 0
IsWorking {Msg = Msg} m refines v c = (w : Machines Msg) × RefinesMachines m refines v w × ((w.disks c).failed ≡ false)

-- The disks after core c journaled an event.
abbrev pub kept_at : {Msg : Type 0} → Machines Msg → ℕ → NodeEvent → ℕ → Disk
kept_at w c event = set_at w.disks c (keeps (w.disks c) event)

-- The effect of a step at a core with a working disk. A dropped event does not use the disk. An accepted event is
-- journaled, or the disk fails and the step has no effect.
abbrev pub kept_to : {Msg : Type 0} → Setup → Machines Msg → ℕ → NodeEvent → Stepped Msg → Upshot (Machines Msg)
kept_to s w c event (Dropped why) = with_disks w w.disks (stepped_to s w.held c (Dropped why))
kept_to s w c event (Taken turn) =
    cond (may_keep (w.disks c).passes)
    (with_disks w (kept_at w c event) (stepped_to s w.held c (Taken turn)))
    (lost_by (with_disk w c (fails (w.disks c))) Stopped)

-- The event was accepted and journaled. The node refines the core after it and releases the outcome.
pub record IsKeptTurn {M Msg : Type 0} (m : Module Msg) (refines : Relation M Msg) (d : Disk) (event : NodeEvent)
    (stepped : Stepped Msg) (new : KeptState M Msg MemoryDisk) (outcome : Outcome) : Type 0 where
  pub turn : Turn Msg
  pub step_is : stepped ≡ Taken turn
  pub room : may_keep d.passes ≡ true
  pub over : RefinesMachine m refines new turn.core (keeps d event)
  pub made : IsMade turn outcome

-- The event would have been accepted, but the disk failed before it was journaled.
pub record IsStop {M Msg : Type 0} (m : Module Msg) (refines : Relation M Msg) (c : Core Msg) (d : Disk)
    (stepped : Stepped Msg) (new : KeptState M Msg MemoryDisk) : Type 0 where
  pub turn : Turn Msg
  pub step_is : stepped ≡ Taken turn
  pub no_room : may_keep d.passes ≡ false
  pub over : RefinesMachine m refines new c (fails d)

-- The answer of a kept node that refined this core with this disk.
abbrev pub HasAnswered : {M Msg : Type 0} → Module Msg → Relation M Msg → Core Msg → Disk → NodeEvent → Stepped Msg →
    KeptState M Msg MemoryDisk → Result NodeAnswer Failed → Type 0
HasAnswered m refines c d event stepped new (Ok (Node_taken outcome)) = IsKeptTurn m refines d event stepped new outcome
HasAnswered m refines c d event stepped new (Ok (Node_dropped why)) = (stepped ≡ Dropped why)
    × RefinesMachine m refines new c d
HasAnswered m refines c d event stepped new (Err failed) = IsStop m refines c d stepped new
HasAnswered m refines c d event stepped new (Ok Node_stale) = ⊥
HasAnswered m refines c d event stepped new (Ok Node_no_memory) = Unit {0}

-- The answer to an event that names existing nodes, for each core that the kept node refined over a working disk.
abbrev pub AnswersMachine : {M Msg : Type 0} → Module Msg → Relation M Msg → (old new : KeptState M Msg MemoryDisk) →
    NodeEvent → Result NodeAnswer Failed → Type 0
AnswersMachine {Msg = Msg} m refines old new event answer = (c : Core Msg) (d : Disk) →
    RefinesMachine m refines old c d → d.failed ≡ false → IsOfNodes old.setup.n event → HasAnswered m refines c d event
    (step_in (frame_of old.setup m) old.me.0 c event) new answer

-- A core whose disk works takes an event whose own claims were tested.
abbrev pub FollowsStep : {M Msg : Type 0} → Module Msg → Relation M Msg → (old new : SimulationState M Msg) → ℕ →
    NodeEvent → EventOutcome → Type 0
FollowsStep {Msg = Msg} m refines old new core event r = (w : Machines Msg) → RefinesMachines m refines old w →
    (w.disks core).failed ≡ false → HasChanged m refines (Some core) new (kept_to old.setup w core event
    (step_in (frame_of old.setup m) (node_of old.setup core) (w.held.net.cores core) event)) r

abbrev pub forged_in : Option Claim → Option End
forged_in None = None
forged_in (Some claim) = Some (Forged claim)

-- The evidence that a turn reveals, if any: a forged claim in a message that arrived early, or a collision.
abbrev pub ends_by : Setup → List Signed → List (List ℕ) → List Claim → List (List ℕ) → Option End
ends_by s signed hashed early strings = first_of (forged_in (first_forged s (rules_of s) signed early))
    (collision_in strings hashed)

-- Core c accepted and journaled an event, but the outcome is not yet tested, recorded or posted. Everything else still
-- refines w. The log had `slots` slots and the epoch was `at`.
pub record IsBehind {M Msg : Type 0} (m : Module Msg) (refines : Relation M Msg)
    (v : SimulationState M Msg) (w : Machines Msg) (event : NodeEvent) (c : ℕ) (t : Turn Msg)
    (slots at : ℕ) : Type 0 where
  pub cores : (i : ℕ) (g : KeptState M Msg MemoryDisk) → slice_get v.nodes i ≡ Some g →
      RefinesMachine m refines g (set_at w.held.net.cores c t.core i) (kept_at w c event i)
  pub network : v.network ≡ w.held.net.network
  pub signed : AreSigned v.signed w.held.signed
  pub hashed : AreHashed v.hashed w.held.hashed
  pub log : (g : KeptState M Msg MemoryDisk) → slice_get v.nodes c ≡ Some g →
      log_of (rules_of v.setup) m (node_of v.setup c) (w.held.net.cores c).past ≡ reverse
      (take slots g.node.state.log.entries)
  pub epoch : at ≡ (w.held.net.cores c).past.epoch

-- What a core made of an event that it accepted and journaled is tested, recorded and posted.
abbrev pub CompletesTurn : {M Msg : Type 0} → Module Msg → Relation M Msg → (old new : SimulationState M Msg) → ℕ →
    (slots at : ℕ) → Outcome → EventOutcome → Type 0
CompletesTurn {Msg = Msg} m refines old new core slots at outcome r = (w : Machines Msg) (event : NodeEvent)
    (t : Turn Msg) → IsBehind m refines old w event core t slots at → IsMade t outcome →
    HasChanged m refines (Some core) new
    (with_disks w (kept_at w core event) (stepped_to old.setup w.held core (Taken t))) r

-- A core read the evidence: all machines that the simulation refined are left so by it.
abbrev pub IsLeftAt : {M Msg : Type 0} → Module Msg → Relation M Msg → (old new : SimulationState M Msg) → ℕ → Type 0
IsLeftAt {Msg = Msg} m refines old new core = (w : Machines Msg) → RefinesMachines m refines old w →
    IsLeftBy m refines (Some core) new w

-- The node of core c may go back to its first slots and an earlier epoch.
abbrev pub MayRetreat : {M Msg : Type 0} → SimulationState M Msg → (core slots at : ℕ) → Type 0
MayRetreat {M = M} {Msg = Msg} v core slots at = (g : KeptState M Msg MemoryDisk) → slice_get v.nodes core ≡ Some g →
    (slots ≤ length g.node.state.log.entries) × (at ≤ g.node.state.epoch)

-- The evidence in what a step made, if any: a forged claim in a message that arrived early, or a collision.
abbrev pub Reveals : Setup → List (List ℕ) → List (List ℕ × List ℕ) → Outcome → Option Evidence → Type 0
Reveals s signed hashed outcome end = (claims : List Signed) (strings : List (List ℕ)) → AreSigned signed claims →
    AreHashed hashed strings → option_map end_of end ≡ ends_by s claims strings outcome.early outcome.hashed
