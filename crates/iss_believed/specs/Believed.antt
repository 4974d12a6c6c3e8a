-- The replies of a run: each correct node replies to the requests of its log, as the report prints it. These logs are
-- prefixes of one log, the longest of them. What a client accepts of such replies is that log's answer.
use Rattle.std.specs.Prelude.{◌≡◌, ℕ, zero, suc, nat_lt, true, if◌then◌else◌, List, [], ◌++◌, length}
use Rattle.iss_base.specs.Lists.{In}
use Rattle.iss_request.specs.declared.requests.Value.{Value}
use Rattle.iss_request.specs.declared.setups.Setup.{Setup}
use Rattle.iss_schedule.specs.declared.schedules.Event.{Event}
use Rattle.iss_sb.specs.Evidence.{Module, is_correct}
use Rattle.iss_model.specs.Courses.{Course}
use Rattle.iss_model.specs.Run.{Held}
use Rattle.iss_model.specs.Runs.{IsPrefix}
use Rattle.iss_theorems.specs.Headline.{course_after, held_after, shown}
use Rattle.iss_reply.specs.Clients.{cluster_of, is_signed}
use Rattle.iss_reply.specs.Replies.{replies_to, replying}
use Rattle.iss_reply.specs.declared.replies.Reply.{Reply}
use Rattle.iss_answers.specs.Printed.{AreBelieved}
use Rattle.iss_answers.specs.Texts.{replies_text}

-- ---- the text

-- the replies of node i to its log, if it is correct; a faulty node has none
abbrev pub made_by : Setup → (ℕ → List Value) → ℕ → List Reply
made_by s logs i = if is_correct s i then replies_to (replying s i) (logs i) else []

-- the replies of the first n nodes
abbrev pub replies_of_nodes : Setup → (ℕ → List Value) → ℕ → List Reply
replies_of_nodes s logs zero = []
replies_of_nodes s logs (suc n) = replies_of_nodes s logs n ++ made_by s logs n

-- rule: Replies: The replies of a run are those of each correct node to the requests of its printed log
abbrev pub replies_of_run : {Msg : Type 0} → Setup → Module Msg → Course Msg → List Reply
replies_of_run s M p = replies_of_nodes s (shown s M p.state.held) s.n

abbrev pub text_of_run : {Msg : Type 0} → Setup → Module Msg → Course Msg → List ℕ
text_of_run s M p = replies_text s (replies_of_run s M p)

-- ---- the one log

abbrev pub longer : List Value → List Value → List Value
longer a b = if nat_lt (length a) (length b) then b else a

-- the longest log of the correct ones of the first n nodes
abbrev pub longest : Setup → (ℕ → List Value) → ℕ → List Value
longest s logs zero = []
longest s logs (suc n) = if is_correct s n then longer (longest s logs n) (logs n) else longest s logs n

abbrev pub one_log : {Msg : Type 0} → Setup → Module Msg → Held Msg → List Value
one_log s M h = longest s (shown s M h) s.n

-- ---- what may be believed

-- one of these replies states the same
pub record IsAmong (own : List Reply) (r : Reply) : Type 0 where
  pub reply : Reply
  pub there : In reply own
  pub by : r.by ≡ reply.by
  pub epoch : r.epoch ≡ reply.epoch
  pub q : r.q ≡ reply.q
  pub id : r.id ≡ reply.id
  pub answer : r.answer ≡ reply.answer

-- No reply of a correct node was forged: each that verifies for one states what that node stated.
abbrev pub AreUnforged : Setup → List Reply → List Reply → Type 0
AreUnforged s own told = (r : Reply) → In r told → is_signed (cluster_of s) r ≡ true → is_correct s r.by.0 ≡ true →
    IsAmong own r

-- The headline for clients. Correct nodes' logs are prefixes of one log. Of any replies among which those of correct
-- nodes are unforged, a client accepts only answers of that log (PBFT: f + 1 equal replies); the run's own are such.
-- rule: Replies: An accepted answer is the log's answer to the request with this number and identity
pub record AreOfOneLog {Msg : Type 0} (s : Setup) (M : Module Msg) (events : List Event) : Type 0 where
  pub prefix : (i : ℕ) → is_correct s i ≡ true →
      IsPrefix (shown s M (held_after s M events) i) (one_log s M (held_after s M events))
  pub believed : (told : List Reply) → AreUnforged s (replies_of_run s M (course_after s M events)) told →
      AreBelieved (one_log s M (held_after s M events)) (cluster_of s) told
  pub exact : AreBelieved (one_log s M (held_after s M events)) (cluster_of s)
      (replies_of_run s M (course_after s M events))
