-- What stands after the header of a text: lines, and then the last line. What is wrong with the rest of a text, if
-- anything is.
use Rattle.std.specs.Prelude.{◌≡◌, ◌≢◌, ◌⊎◌, ℕ, ◌<◌, List, [], codes}
use Rattle.iss_schedule.specs.BadLines.{IsNext}
use Rattle.iss_schedule.specs.Schedules.{most_events}
use Rattle.iss_schedule.specs.Words.{Lacks}
use Rattle.iss_schedule.specs.declared.errors.LineFault.{LineFault}
use Rattle.iss_schedule.specs.declared.errors.LineFault.TheVariants.{Cut, Form, Faulty, Injected, Range, Size}

abbrev pub last_line : List ℕ
last_line = codes "end"

-- What is wrong with the rest of a text after `count` good lines, of which none is the last one. A line too many comes
-- first, then a missing line feed or a missing last line, and then a fault of the next line.
-- rule: Texts: After a header stand at most as many lines as a schedule has events, the last one included
abbrev pub IsBadNext : ℕ → (List ℕ → LineFault → Type 0) → List ℕ → LineFault → Type 0
IsBadNext count Fault rest Size = (count ≡ most_events) × (rest ≢ [])
IsBadNext count Fault rest Cut = ((count < most_events) ⊎ (rest ≡ [])) × Lacks 10 rest
IsBadNext count Fault rest why = (count < most_events) × ((line : List ℕ) × (IsNext line rest × Fault line why))

-- What is wrong with the rest after the last line: anything.
-- rule: Texts: Nothing stands after the last line
abbrev pub IsBadBehind : List ℕ → LineFault → Type 0
IsBadBehind rest Cut = (rest ≢ []) × Lacks 10 rest
IsBadBehind rest Form = (line : List ℕ) × IsNext line rest
IsBadBehind rest Size = ⊥
IsBadBehind rest Faulty = ⊥
IsBadBehind rest Injected = ⊥
IsBadBehind rest Range = ⊥
