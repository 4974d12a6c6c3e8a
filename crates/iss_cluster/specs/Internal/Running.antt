-- A cluster in its loop: the report of the run so far, the trace of its events, and the index of its packets. Once it
-- ran out of memory only its set-up is known.
use Rattle.std.specs.Prelude.{◌≡◌, ℕ, Bool, false, List, Option, None, Vec}
use Rattle.std.specs.Global.{Global}
use Rattle.iss_cluster.specs.Clusters.{behavior_of}
use Rattle.iss_loops.specs.Internal.PacketIndex.{IsIndexOf}
use Rattle.iss_loops.specs.Traces.{IsTrace}
use Rattle.iss_model.specs.Disks.{Disk}
use Rattle.iss_replay.specs.Refines.{ReportRefinesRun}
use Rattle.iss_rules.specs.Setups.{IsSetupOf}
use Rattle.iss_rules.specs.declared.events.Why.{Why}
use Rattle.iss_sb.specs.Calls.{Relation}
use Rattle.iss_sb.specs.Evidence.{Module}
use Rattle.iss_schedule.specs.declared.schedules.Schedule.{Schedule}
use Rattle.iss_theorems.specs.Headline.{course_after, held_after}
use Rattle.iss_world.specs.State.{WorldState}
use Rattle.iss_world.specs.declared.ends.Evidence.{Evidence}

pub record RunningState (M Msg : Type 0) : Type 0 where
  pub world : WorldState M Msg
  pub drops : List (ℕ × Why)
  pub ended : Option (ℕ × Evidence)
  pub trace : Schedule
  pub index : List (ℕ × Vec ℕ Global)
  -- memory ran out in an event
  pub stale : Bool

-- no call of these disks has failed, and none will
abbrev pub Work : (ℕ → Disk) → Type 0
Work disks = (c : ℕ) → ((disks c).passes ≡ None) × ((disks c).failed ≡ false)

-- The report is that of the trace's run, and the index that of its packets. The trace is one of a loop, and no disk
-- has failed.
pub record HasRun {M Msg : Type 0} (m : Module Msg) (refines : Relation M Msg) (world : WorldState M Msg)
    (drops : List (ℕ × Why)) (ended : Option (ℕ × Evidence)) (trace : Schedule) (index : List (ℕ × Vec ℕ Global))
    : Type 0 where
  pub report : ReportRefinesRun m refines world drops ended (course_after trace.setup m trace.events)
  pub index_is : IsIndexOf index (held_after trace.setup m trace.events).net.network.packets
  pub trace_is : IsTrace (behavior_of trace.setup m) trace.events
  pub disks : Work (course_after trace.setup m trace.events).state.disks

-- The cluster has the trace's set-up. Unless memory ran out, it has run the trace's events.
pub record IsRunning {M Msg : Type 0} (m : Module Msg) (refines : Relation M Msg) (r : RunningState M Msg)
    : Type 0 where
  pub good : IsSetupOf m r.trace.setup
  pub cluster : r.world.simulation.setup ≡ r.trace.setup
  pub run : r.stale ≡ false → HasRun m refines r.world r.drops r.ended r.trace r.index
