-- The text that tells how far a run has come: lost events, a block for each correct node, and the last line. Where the
-- run ended early, the logs are those from before the delivery that ended it.
use Rattle.std.specs.Prelude.{◌≡◌, ℕ, zero, suc, cond, List, [], ◌∷◌, ◌++◌}
use Rattle.iss_rules.specs.Concrete.{rules_of}
use Rattle.iss_rules.specs.Past.{log_of}
use Rattle.iss_model.specs.Run.{Net}
use Rattle.iss_model.specs.Courses.{Course}
use Rattle.iss_theorems.specs.Headline.{IsWhole, course_after}
use Rattle.iss_rules.specs.declared.events.Why.{Why}
use Rattle.iss_replay.specs.Text.{drop_line, end_line, node_block}
use Rattle.iss_request.specs.declared.setups.Setup.{Setup}
use Rattle.iss_schedule.specs.declared.schedules.Event.{Event}
use Rattle.iss_sb.specs.Evidence.{Module, is_correct}

-- A line for each lost event, in the order of the events. The list has the newest first.
abbrev pub drop_lines : List (ℕ × Why) → List ℕ
drop_lines [] = []
drop_lines (d ∷ older) = drop_lines older ++ drop_line d.0 d.1

-- The block of node i, if it is correct. A faulty node has none.
-- rule: Reports: A faulty node has no block
abbrev pub block_of : {Msg : Type 0} → Setup → Module Msg → Net Msg → ℕ → List ℕ
block_of s M w i = cond (is_correct s i)
    (node_block i (w.cores i).past.epoch (log_of (rules_of s) M i (w.cores i).past)) []

-- The blocks of the first n nodes.
abbrev pub node_blocks : {Msg : Type 0} → Setup → Module Msg → Net Msg → ℕ → List ℕ
node_blocks s M w zero = []
node_blocks s M w (suc n) = node_blocks s M w n ++ block_of s M w n

-- The lost events, the logs of correct nodes, and how the run ended. If evidence stopped the run, the logs are from
-- before that delivery.
abbrev pub text_of : {Msg : Type 0} → Setup → Module Msg → Course Msg → List ℕ
text_of s M p = drop_lines p.drops ++ node_blocks s M p.state.held.net s.n ++ end_line p.ended

-- The bytes are the text of the run of these events, up to the evidence that stopped it, if any. The headline
-- (`IsWhole`) holds for that run.
-- rule: Reports: A replay runs all events and reports all of them
pub record IsReport {Msg : Type 0} (s : Setup) (M : Module Msg) (events : List Event) (bytes : List ℕ) : Type 0 where
  pub tells : bytes ≡ text_of s M (course_after s M events)
  pub whole : IsWhole s M events
