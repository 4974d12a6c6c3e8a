-- The plan of a loop, and what the loop comes to.
use Rattle.std.specs.Prelude.{◌≡◌, ℕ, ◌<◌, ◌^◌, ◌/◌, List, Option, Some}
use Rattle.iss_links.specs.Ends.{End}
use Rattle.iss_loops.specs.Loop.{LoopPlan, LoopState}
use Rattle.iss_loops.specs.declared.plan.Plan.{Plan}
use Rattle.iss_request.specs.declared.setups.Setup.{Setup}
use Rattle.iss_schedule.specs.declared.schedules.Event.{Event}

abbrev pub plan_of : Plan → LoopPlan
plan_of p = record { requests = p.requests; turns = p.turns; frames = p.frames; patience = p.patience }

-- a client signs each of its requests with a leaf of its own
abbrev pub HasLeaves : Setup → ℕ → Type 0
HasLeaves s requests = (i : ℕ) → i < requests → i / s.clients < 2 ^ s.keys

-- these are the loop's events, and the links hold what it leaves there
pub record HasRun (l : LoopState) (events : List Event) (ends : Option (List End)) : Type 0 where
  pub events_are : events ≡ l.events
  pub ends_are : ends ≡ Some l.ends
