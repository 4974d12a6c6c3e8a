-- When a report refines a run so far: its world does, its losses are the run's, and so is its end.
use Rattle.std.specs.Prelude.{◌≡◌, ℕ, List, Option, option_map, reverse}
use Rattle.iss_rules.specs.Ends.{End}
use Rattle.iss_model.specs.Courses.{Course}
use Rattle.iss_rules.specs.declared.events.Why.{Why}
use Rattle.iss_sb.specs.Calls.{Relation}
use Rattle.iss_sb.specs.Evidence.{Module}
use Rattle.iss_world.specs.Refines.{RefinesRun, end_of}
use Rattle.iss_world.specs.State.{WorldState}
use Rattle.iss_world.specs.declared.ends.Evidence.{Evidence}

-- The event that revealed the evidence, and the evidence.
abbrev pub end_at : ℕ × Evidence → ℕ × End
end_at x = (x.0, end_of x.1)

-- Evidence with the number of its event.
abbrev pub numbered : ℕ → Option Evidence → Option (ℕ × Evidence)
numbered k end = option_map (λ x. (k, x)) end

abbrev pub end_kept : Option (ℕ × Evidence) → Option (ℕ × End)
end_kept ended = option_map end_at ended

-- The world refines the run so far. The report has the run's lost events, oldest first, and its evidence.
pub record ReportRefinesRun {M Msg : Type 0} (m : Module Msg) (refines : Relation M Msg)
    (world : WorldState M Msg) (drops : List (ℕ × Why)) (ended : Option (ℕ × Evidence)) (p : Course Msg) : Type 0 where
  pub refined : RefinesRun m refines world p
  pub drops_are : reverse drops ≡ p.drops
  pub end_is : end_kept ended ≡ p.ended
