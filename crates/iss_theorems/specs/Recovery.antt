-- Runs with disk failures and restarts. Such a run equals a failure-free one, by the events that were journaled: cores,
-- packets, books and the evidence that ended it are the same.
use Rattle.std.specs.Prelude.{◌≡◌, ℕ, List, [], ◌∷◌, Option, Some, None}
use Rattle.iss_request.specs.declared.setups.Setup.{Setup}
use Rattle.iss_schedule.specs.declared.schedules.Event.{Event}
use Rattle.iss_schedule.specs.declared.schedules.Event.TheVariants.{Request as Event_request, Propose, Timeout as Event_timeout, Ask, Deliver, Lose, Pump, Calm, Hold, Free, Drop as Event_drop, Restart, Crash, Bytes}
use Rattle.iss_sb.specs.Evidence.{Module}
use Rattle.iss_rules.specs.Ends.{End}
use Rattle.iss_model.specs.Run.{Held}
use Rattle.iss_model.specs.Runs.{AreAtCores}
use Rattle.iss_model.specs.Courses.{Course, begin_course, driver_of}
use Rattle.iss_model.specs.Driver.{run}
use Rattle.iss_theorems.specs.OneLog.{run_after}

-- the run of these events, with disk failures
abbrev pub course_after : {Msg : Type 0} → Setup → Module Msg → List Event → Course Msg
course_after s M events = run (driver_of s M) (begin_course s) events

-- its state: cores, network and books
abbrev pub held_after : {Msg : Type 0} → Setup → Module Msg → List Event → Held Msg
held_after s M events = (course_after s M events).state.held

-- ---- crash recovery

-- the event is neither a crash nor a restart
abbrev pub IsUndisturbed : Event → Type 0
IsUndisturbed (Event_request c client number payload) = Unit {0}
IsUndisturbed (Propose c) = Unit {0}
IsUndisturbed (Event_timeout c l) = Unit {0}
IsUndisturbed (Ask c peer) = Unit {0}
IsUndisturbed (Deliver k) = Unit {0}
IsUndisturbed (Lose k) = Unit {0}
IsUndisturbed Pump = Unit {0}
IsUndisturbed (Calm m) = Unit {0}
IsUndisturbed (Hold c) = Unit {0}
IsUndisturbed (Free c) = Unit {0}
IsUndisturbed (Event_drop c) = Unit {0}
IsUndisturbed (Restart c) = ⊥
IsUndisturbed (Crash c calls) = ⊥
IsUndisturbed (Bytes c bytes) = Unit {0}

-- the same of all events
abbrev pub AreUndisturbed : List Event → Type 0
AreUndisturbed [] = Unit {0}
AreUndisturbed (e ∷ es) = IsUndisturbed e × AreUndisturbed es

-- the evidence, without the number of the event
abbrev pub why_ended : Option (ℕ × End) → Option End
why_ended None = None
why_ended (Some at) = Some at.1

-- Crash recovery. Cores, packets, books and evidence equal those of a failure-free run of the events that were
-- journaled (`entered`). So an event that was not journaled has no effect.
pub record Enters {Msg : Type 0} (s : Setup) (M : Module Msg) (events : List Event) : Type 0 where
  pub entered : List Event
  pub at_cores : AreAtCores s entered
  pub undisturbed : AreUndisturbed entered
  pub held : (run_after s M entered).state ≡ held_after s M events
  pub ended : why_ended (run_after s M entered).ended ≡ why_ended (course_after s M events).ended
