-- Why reading the next line, or what stands after the last one, refuses a text.
use Rattle.std.specs.Prelude.{◌≡◌, ◌≢◌, ◌⊎◌, ℕ, ◌+◌, ◌<◌, List, []}
use Rattle.iss_schedule.specs.Places.{Place}
use Rattle.iss_schedule.specs.Schedules.{most_events}
use Rattle.iss_schedule.specs.Words.{Lacks}
use Rattle.iss_schedule.specs.declared.errors.LineFault.{LineFault}
use Rattle.iss_schedule.specs.declared.errors.LineFault.TheVariants.{Cut, Size}
use Rattle.iss_schedule.specs.declared.errors.ReadError.{ReadError}
use Rattle.iss_schedule.specs.declared.errors.ReadError.TheVariants as read
use Rattle.iss_texts.specs.Bodies.{IsBadBehind}

-- there is no next line, or it is one too many; `count` lines after the header were read
abbrev pub IsNoNext : ℕ → List ℕ → LineFault → Type 0
IsNoNext count rest why = ((why ≡ Size) × (count ≡ most_events) × (rest ≢ []))
    ⊎ ((why ≡ Cut) × (((count < most_events) ⊎ (rest ≡ [])) × Lacks 10 rest))

abbrev pub IsNextRefused : Place → ReadError → Type 0
IsNextRefused old (read.BadLine line why) = (line ≡ old.read + 1) × ((count : ℕ) → old.read ≡ 11 + count →
    IsNoNext count old.rest why)
IsNextRefused old read.NoMemory = ⊥

-- the line after the last one refuses the text
abbrev pub IsBehindRefused : Place → ReadError → Type 0
IsBehindRefused old (read.BadLine line why) = (line ≡ old.read + 1) × IsBadBehind old.rest why
IsBehindRefused old read.NoMemory = Unit {0}
