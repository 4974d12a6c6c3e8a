-- Why a text is not one of replies: its first line that may not stand in its place, and the first reason.
use Rattle.std.specs.Prelude.{◌≡◌, ◌≢◌, ◌⊎◌, ℕ, ◌+◌, ◌≤◌, List, ◌++◌, length, map}
use Rattle.std.specs.List.{AllByRecursion}
use Rattle.iss_request.specs.declared.setups.Setup.{Setup}
use Rattle.iss_reply.specs.declared.replies.Reply.{Reply}
use Rattle.iss_schedule.specs.BadLines.{IsBadLine}
use Rattle.iss_schedule.specs.Schedules.{IsKnown, header_lines, most_bytes, most_events}
use Rattle.iss_schedule.specs.Words.{ended}
use Rattle.iss_schedule.specs.declared.errors.LineFault.{LineFault}
use Rattle.iss_schedule.specs.declared.errors.LineFault.TheVariants.{Cut, Form, Faulty, Injected, Range, Size}
use Rattle.iss_schedule.specs.declared.errors.ReadError.{ReadError}
use Rattle.iss_schedule.specs.declared.errors.ReadError.TheVariants.{BadLine, NoMemory}
use Rattle.iss_texts.specs.Bodies.{IsBadBehind, IsBadNext, last_line}
use Rattle.iss_answers.specs.Lines.{IsFormed, IsInRange, reply_line}
use Rattle.iss_answers.specs.Texts.{body_lines}

-- no reply in range has this line
abbrev pub IsNoReply : List ℕ → Type 0
IsNoReply line = (r : Reply) → IsInRange r → line ≢ reply_line r

-- What is wrong with a line that is neither the last one nor a reply's. The form comes before the ranges.
-- rule: Replies: The first bad line of a text is named, and a wrong form before a number out of range
abbrev pub IsFault : List ℕ → LineFault → Type 0
IsFault line Form = (line ≢ last_line) × ¬ IsFormed line
IsFault line Range = (line ≢ last_line) × IsFormed line × IsNoReply line
IsFault line Cut = ⊥
IsFault line Faulty = ⊥
IsFault line Injected = ⊥
IsFault line Size = ⊥

-- the first bad line after a header, where no last line stands before it
pub record IsBadInside (body : List ℕ) (line : ℕ) (why : LineFault) : Type 0 where
  pub before : List Reply
  pub rest : List ℕ
  pub text : body ≡ ended (map reply_line before) ++ rest
  pub range : AllByRecursion IsInRange before
  pub number : line ≡ 12 + length before
  pub bad : IsBadNext (length before) IsFault rest why

-- the line after the last one
pub record IsBadAfter (body : List ℕ) (line : ℕ) (why : LineFault) : Type 0 where
  pub replies : List Reply
  pub rest : List ℕ
  pub text : body ≡ ended (body_lines replies) ++ rest
  pub range : AllByRecursion IsInRange replies
  pub few : length (body_lines replies) ≤ most_events
  pub number : line ≡ 12 + length (body_lines replies)
  pub bad : IsBadBehind rest why

abbrev pub IsBadBody : List ℕ → ℕ → LineFault → Type 0
IsBadBody body line why = IsBadInside body line why ⊎ IsBadAfter body line why

-- a good header, and a bad line after it
pub record IsBadAfterHeader (bytes : List ℕ) (line : ℕ) (why : LineFault) : Type 0 where
  pub setup : Setup
  pub body : List ℕ
  pub known : IsKnown setup
  pub text : bytes ≡ ended (header_lines setup) ++ body
  pub short : length bytes ≤ most_bytes
  pub bad : IsBadBody body line why

-- The first bad line: as for a schedule in the header, or the first line after it that may not stand there.
abbrev pub IsBadText : List ℕ → ℕ → LineFault → Type 0
IsBadText bytes line why = ((line ≤ 11) × IsBadLine bytes line why) ⊎ IsBadAfterHeader bytes line why

-- the refusal of a text; running out of memory says nothing about it
abbrev pub IsRefused : List ℕ → ReadError → Type 0
IsRefused bytes (BadLine line why) = IsBadText bytes line why
IsRefused bytes NoMemory = Unit {0}
