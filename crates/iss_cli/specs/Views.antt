-- What orders show of a schedule's run under its module, and what is promised of that run. The promise is the one of
-- the recovery theorem: one log, conserved requests, certificates of correct logs, evidence where the run ends early.
use Rattle.std.specs.Prelude.{◌≡◌, ◌⊎◌, ℕ, List, Option, Some, None}
use Rattle.iss_model.specs.Courses.{Course}
use Rattle.iss_rules.specs.Ends.{End, Forged, Collision}
use Rattle.iss_theorems.specs.Headline.{IsWhole, course_after}
use Rattle.iss_replay.specs.Report.{text_of}
use Rattle.iss_replay.specs.Summary.{summary_of}
use Rattle.iss_believed.specs.Believed.{text_of_run}
use Rattle.iss_request.specs.declared.setups.Setup.{Setup}
use Rattle.iss_sb.specs.Evidence.{Module}
use Rattle.iss_schedule.specs.declared.schedules.Schedule.{Schedule}
use Rattle.sb_chained.specs.Chained.{chained}
use Rattle.sb_hotstuff.specs.HotStuff.{hotstuff}
use Rattle.sb_pbft.specs.Pbft.{pbft}
use Rattle.sb_raft.specs.Raft.{raft}
use Rattle.sb_relay.specs.Relay.{relay}
use Rattle.iss_cli.specs.declared.answers.Answer.{Answer}
use Rattle.iss_cli.specs.declared.status.Outcome.{Outcome}
use Rattle.iss_cli.specs.declared.status.Outcome.TheVariants.{Done, Forged as Outcome_forged, Collision as Outcome_collision}
use Rattle.iss_cli.specs.declared.views.View.{View}
use Rattle.iss_cli.specs.declared.views.View.TheVariants.{Full, Replied, Summary}

-- It holds of the module with this number. One line for each module that a schedule can name.
abbrev pub Under : ℕ → ((Msg : Type 0) → Module Msg → Type 0) → Type 0
Under number Holds =
    ((number ≡ relay.tag) × Holds _ relay)
    ⊎ ((number ≡ raft.tag) × Holds _ raft)
    ⊎ ((number ≡ pbft.tag) × Holds _ pbft)
    ⊎ ((number ≡ hotstuff.tag) × Holds _ hotstuff)
    ⊎ ((number ≡ chained.tag) × Holds _ chained)

-- What is shown of a run. One line for each view.
abbrev pub text_in : {Msg : Type 0} → View → Setup → Module Msg → Course Msg → List ℕ
text_in Full s M p = text_of s M p
text_in Summary s M p = summary_of s M p
text_in Replied s M p = text_of_run s M p

-- The outcome of a run.
-- rule: Program: A run that ends with evidence exits with 6 or 7, and reports the logs before it
abbrev pub outcome_of : Option (ℕ × End) → Outcome
outcome_of None = Done
outcome_of (Some (event, Forged claim)) = Outcome_forged
outcome_of (Some (event, Collision first second)) = Outcome_collision

-- The answer shows the schedule's run under this module, and the headline holds for that run.
pub record IsShownUnder (view : View) (s : Schedule) (a : Answer) (Msg : Type 0) (M : Module Msg) : Type 0 where
  pub printed : a.printed ≡ text_in view s.setup M (course_after s.setup M s.events)
  pub outcome : a.outcome ≡ outcome_of (course_after s.setup M s.events).ended
  pub whole : IsWhole s.setup M s.events

-- The answer shows the schedule's run under the module that it names.
abbrev pub IsShown : View → Schedule → Answer → Type 0
IsShown view s a = Under s.setup.module (IsShownUnder view s a)
