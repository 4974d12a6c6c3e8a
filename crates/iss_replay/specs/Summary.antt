-- The summary of a run: how far each correct node's log is, the digest of the report, and the report's last line.
use Rattle.std.specs.Prelude.{ℕ, zero, suc, cond, List, [], ◌++◌}
use Rattle.iss_request.specs.declared.setups.Setup.{Setup}
use Rattle.iss_rules.specs.Concrete.{rules_of}
use Rattle.iss_rules.specs.Past.{log_of}
use Rattle.iss_model.specs.Run.{Net}
use Rattle.iss_model.specs.Courses.{Course}
use Rattle.iss_sb.specs.Evidence.{Module, is_correct}
use Rattle.iss_replay.specs.Report.{text_of}
use Rattle.iss_replay.specs.Text.{digest_line, end_line, first_line}

-- the line of node i, if it is correct
abbrev pub line_of : {Msg : Type 0} → Setup → Module Msg → Net Msg → ℕ → List ℕ
line_of s M w i = cond (is_correct s i)
    (first_line i (w.cores i).past.epoch (log_of (rules_of s) M i (w.cores i).past)) []

-- the lines of the first n nodes
abbrev pub node_lines : {Msg : Type 0} → Setup → Module Msg → Net Msg → ℕ → List ℕ
node_lines s M w zero = []
node_lines s M w (suc n) = node_lines s M w n ++ line_of s M w n

abbrev pub summary_of : {Msg : Type 0} → Setup → Module Msg → Course Msg → List ℕ
summary_of s M p =
    node_lines s M p.state.held.net s.n ++ digest_line (text_of s M p) ++ end_line p.ended
