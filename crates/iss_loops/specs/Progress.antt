-- What contracts see of a cluster in its loop, and what a part of the loop does.
use Rattle.std.specs.Prelude.{◌≡◌, ◌≤◌, ◌+◌, ℕ, Bool, false, List, Option, Some, Result, OnOk, IsErrOf}
use Rattle.iss_links.specs.Calls.{HasCause}
use Rattle.iss_links.specs.Ends.{End}
use Rattle.iss_loops.specs.Behavior.{Behavior}
use Rattle.iss_loops.specs.Loop.{LoopState}
use Rattle.iss_loops.specs.declared.errors.LoopError.{LoopError}
use Rattle.iss_loops.specs.declared.errors.LoopError.TheVariants.{LinksFault}
use Rattle.iss_loops.specs.declared.progress.Progress.{Progress}
use Rattle.iss_schedule.specs.declared.schedules.Event.{Event}

pub record Seen : Type 0 where
  -- what the cluster does, the events that happened to it, and whether it ran out of memory
  pub behavior : Behavior
  pub events : List Event
  pub stale : Bool
  -- what the links hold, and how many of their calls have failed
  pub ends : Option (List End)
  pub faults : ℕ
  pub progress : Progress

abbrev pub seen : {C L : Type 0} → (C → Behavior) → (C → List Event) → (C → Bool) → (L → Option (List End)) → (L → ℕ) →
    C → L → Progress → Seen
seen behavior events stale ends faults cluster links progress = record {
  behavior = behavior cluster;
  events = events cluster;
  stale = stale cluster;
  ends = ends links;
  faults = faults links;
  progress = progress;
}

-- These events happened, the links hold this, and the progress is that of the loop. Links that record no frames are at
-- no state of a loop.
pub record IsAt (s : Seen) (l : LoopState) : Type 0 where
  pub events_are : s.events ≡ l.events
  pub ends_are : s.ends ≡ Some l.ends
  pub idle : s.progress.idle ≡ l.idle
  pub idle_turns : s.progress.idle_turns ≡ l.idle_turns
  pub full : s.progress.full ≡ l.full

-- A part of the loop is done. The cluster does what it did before, and has memory if it had. At most `more` idle turns
-- were counted. A loop that was at a state is where F leads from it.
pub record Goes (more : ℕ) (F : Behavior → LoopState → LoopState) (before after : Seen) : Type 0 where
  pub same : after.behavior ≡ before.behavior
  pub fresh : before.stale ≡ false → after.stale ≡ false
  pub idle_turns : after.progress.idle_turns ≤ before.progress.idle_turns + more
  pub leads : before.stale ≡ false → (l : LoopState) → IsAt before l → IsAt after (F before.behavior l)

-- A part of the loop is done, or failed.
pub record Does (more : ℕ) (F : Behavior → LoopState → LoopState) (before after : Seen)
    (result : Result (Unit {0}) LoopError) : Type 0 where
  pub goes : OnOk result (Goes more F before after)
  pub cause : HasCause before.faults after.faults (IsErrOf result LinksFault)
