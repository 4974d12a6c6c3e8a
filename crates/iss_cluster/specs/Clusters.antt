-- What the nodes of a cluster do, as functions of the events that happened to it, by the model of runs. And what its
-- trace and report are.
use Rattle.std.specs.Prelude.{◌≡◌, ℕ, List, is_some, map, Option}
use Rattle.iss_config.specs.declared.configs.Config.{Config}
use Rattle.iss_loops.specs.Behavior.{Behavior}
use Rattle.iss_loops.specs.Loop.{LoopPlan}
use Rattle.iss_loops.specs.Traces.{IsTrace}
use Rattle.iss_model.specs.Run.{node_of}
use Rattle.iss_model.specs.Views.{is_castable_now, unfilled}
use Rattle.iss_replay.specs.Refines.{ReportRefinesRun}
use Rattle.iss_request.specs.declared.setups.Setup.{Setup}
use Rattle.iss_rules.specs.Concrete.{rules_of}
use Rattle.iss_rules.specs.declared.events.Why.{Why}
use Rattle.iss_sb.specs.Calls.{Relation}
use Rattle.iss_sb.specs.Evidence.{Module}
use Rattle.iss_schedule.specs.Events.{AreInRange}
use Rattle.iss_schedule.specs.declared.schedules.Schedule.{Schedule}
use Rattle.iss_theorems.specs.Headline.{IsWhole, course_after, held_after}
use Rattle.iss_world.specs.State.{WorldState}
use Rattle.iss_world.specs.declared.ends.Evidence.{Evidence}

-- what the cores of a cluster without faulty nodes do, by the run of their events
abbrev pub behavior_of : {Msg : Type 0} → Setup → Module Msg → Behavior
behavior_of s M = record {
  setup = s;
  castable = λ events i.
      is_castable_now (rules_of s) M (node_of s i) ((held_after s M events).net.cores i);
  unfilled = λ events i. map (λ l. record { 0 = l })
      (unfilled (rules_of s) M s.n (node_of s i) ((held_after s M events).net.cores i).past);
  packets = λ events. (held_after s M events).net.network.packets;
  has_evidence = λ events. is_some (course_after s M events).ended;
}

-- the plan of a cluster's loop: a core takes at most 200,000 frames in a turn, and cores wake up after 64 idle turns
abbrev pub loop_plan_of : Config → LoopPlan
loop_plan_of c = record { requests = c.requests; turns = c.turns; frames = 200000; patience = 64 }

-- The trace is a schedule of this set-up, in range and within its limits, and what shows evidence is its last event.
-- The report is that of the trace's run, and the headline holds for that run.
pub record IsTracedRun {M Msg : Type 0} (m : Module Msg) (refines : Relation M Msg) (s : Setup) (trace : Schedule)
    (world : WorldState M Msg) (drops : List (ℕ × Why)) (ended : Option (ℕ × Evidence)) : Type 0 where
  pub setup : trace.setup ≡ s
  pub range : AreInRange s trace.events
  pub trace_is : IsTrace (behavior_of s m) trace.events
  pub report : ReportRefinesRun m refines world drops ended (course_after s m trace.events)
  pub cluster : world.simulation.setup ≡ s
  pub whole : IsWhole s m trace.events
