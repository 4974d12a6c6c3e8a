-- The first bad line of a text, and what is wrong with it. The lines before it begin a schedule, and with it no
-- schedule goes on. Reasons: too many events, a cut line, a wrong form, bad faulty nodes, bytes for a core of stopping
-- nodes, or a number out of range. Each text is a schedule, or has exactly one first bad line with one reason.
use Rattle.std.specs.Prelude.{◌≡◌, ◌≢◌, ◌⊎◌, ◌<◌, ◌≤◌, ◌+◌, ℕ, suc, List, [], ◌∷◌, ◌++◌, length, take}
use Rattle.iss_request.specs.declared.setups.Kind.TheVariants.{Stopping}
use Rattle.iss_schedule.specs.declared.errors.LineFault.{LineFault}
use Rattle.iss_schedule.specs.declared.errors.LineFault.TheVariants.{Cut, Form, Faulty, Injected, Range, Size}
use Rattle.iss_schedule.specs.declared.errors.ReadError.{ReadError}
use Rattle.iss_schedule.specs.declared.errors.ReadError.TheVariants.{BadLine, NoMemory}
use Rattle.iss_schedule.specs.declared.schedules.Schedule.{Schedule}
use Rattle.iss_schedule.specs.Forms.{HasForm, IsInjection}
use Rattle.iss_schedule.specs.Schedules.{IsFine, IsSchedule, schedule_lines, most_bytes, most_events}
use Rattle.iss_schedule.specs.Words.{Lacks, ended}

-- the lines are a prefix of the lines of some schedule in range
pub record Begins (lines : List (List ℕ)) : Type 0 where
  pub schedule : Schedule
  pub fine : IsFine schedule
  pub front : lines ≡ take (length lines) (schedule_lines schedule)

-- the rest of a text begins with this line and a line feed
pub record IsNext (line rest : List ℕ) : Type 0 where
  pub more : List ℕ
  pub text : rest ≡ line ++ 10 ∷ more
  pub whole : Lacks 10 line

-- the same, for a module in the crash model
pub record BeginsStopping (lines : List (List ℕ)) : Type 0 where
  pub begins : Begins lines
  pub stops : begins.schedule.setup.kind ≡ Stopping

-- the event injects bytes into a core, for a module in the crash model
abbrev pub IsInjected : List (List ℕ) → List ℕ → Type 0
IsInjected front line = (11 ≤ length front) × IsInjection line × BeginsStopping front

-- What is wrong with a line after good lines (`front`). The first reason that holds counts. Line 11 names the faulty
-- nodes; it breaks their rule if no schedule in range continues with it.
abbrev pub IsFault : List (List ℕ) → List ℕ → LineFault → Type 0
IsFault front line Form = ¬ HasForm (length front) line
IsFault front line Faulty = HasForm (length front) line × (length front ≡ 10) × ¬ Begins (front ++ line ∷ [])
IsFault front line Injected = IsInjected front line
IsFault front line Range = HasForm (length front) line × (length front ≢ 10) × ¬ IsInjected front line
    × ¬ Begins (front ++ line ∷ [])
IsFault front line Cut = ⊥
IsFault front line Size = ⊥

-- What is wrong with the rest after good lines: there is an event too many, or no line feed follows, or the next line
-- has a fault.
abbrev pub IsBadRest : List (List ℕ) → List ℕ → LineFault → Type 0
IsBadRest front rest Size = (length front ≡ 11 + most_events) × (rest ≢ [])
IsBadRest front rest Cut = (length front < 11 + most_events) × Lacks 10 rest × ((length front < 11) ⊎ (rest ≢ []))
IsBadRest front rest why = (length front < 11 + most_events)
    × ((line : List ℕ) × (IsNext line rest × IsFault front line why))

-- The lines before this one begin a schedule in range, and with this one they do not.
-- rule: Schedules: The first bad line is named, with the first reason that holds
pub record IsFirstBad (bytes : List ℕ) (line : ℕ) (why : LineFault) : Type 0 where
  pub front : List (List ℕ)
  pub rest : List ℕ
  pub text : bytes ≡ ended front ++ rest
  pub number : line ≡ suc (length front)
  pub good : Begins front
  pub bad : IsBadRest front rest why

-- The first bad line, counted from 1. A text that is too long has no good line, and line 0 is reported.
abbrev pub IsBadLine : List ℕ → ℕ → LineFault → Type 0
IsBadLine bytes line why = ((most_bytes < length bytes) × (line ≡ 0) × (why ≡ Size))
    ⊎ ((length bytes ≤ most_bytes) × IsFirstBad bytes line why)

-- The text is refused for its first bad line. Running out of memory says nothing about the text.
abbrev pub IsRefused : List ℕ → ReadError → Type 0
IsRefused bytes (BadLine line why) = IsBadLine bytes line why
IsRefused bytes NoMemory = Unit {0}

-- a text that is refused for a line is the text of no schedule
abbrev pub IsNoText : List ℕ → ReadError → Type 0
IsNoText bytes (BadLine line why) = (s : Schedule) → ¬ IsSchedule bytes s
IsNoText bytes NoMemory = Unit {0}

-- the refusal is for a line of the header
abbrev pub IsInHeader : ReadError → Type 0
IsInHeader (BadLine line why) = line ≤ 11
IsInHeader NoMemory = Unit {0}
