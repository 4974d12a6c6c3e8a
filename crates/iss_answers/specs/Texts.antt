-- The text of replies: the header of a schedule, a line for each reply, and a last line.
use Rattle.std.specs.Prelude.{◌≡◌, ℕ, ◌≤◌, List, [], ◌∷◌, ◌++◌, length, map}
use Rattle.std.specs.List.{AllByRecursion}
use Rattle.iss_request.specs.declared.setups.Setup.{Setup}
use Rattle.iss_reply.specs.declared.replies.Reply.{Reply}
use Rattle.iss_schedule.specs.Schedules.{IsKnown, header_lines, most_bytes, most_events}
use Rattle.iss_schedule.specs.Words.{ended}
use Rattle.iss_texts.specs.Bodies.{last_line}
use Rattle.iss_answers.specs.Lines.{IsInRange, reply_line}
use Rattle.iss_answers.specs.declared.told.Told.{Told}

-- all lines after the header
abbrev pub body_lines : List Reply → List (List ℕ)
body_lines replies = map reply_line replies ++ last_line ∷ []

-- rule: Replies: A text of replies is a header, a line for each reply, and a last line
abbrev pub replies_text : Setup → List Reply → List ℕ
replies_text s replies = ended (header_lines s) ++ ended (body_lines replies)

-- the bytes are the text of these replies, within the limits of schedules
pub record IsTold (bytes : List ℕ) (t : Told) : Type 0 where
  pub text : bytes ≡ replies_text t.setup t.replies
  pub setup : IsKnown t.setup
  pub range : AllByRecursion IsInRange t.replies
  pub few : length (body_lines t.replies) ≤ most_events
  pub short : length bytes ≤ most_bytes
