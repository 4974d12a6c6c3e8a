-- Why reading a line, or the lines after a header, refuses a text of replies.
use Rattle.std.specs.Prelude.{◌≡◌, ℕ, List}
use Rattle.iss_schedule.specs.declared.errors.ReadError.{ReadError}
use Rattle.iss_schedule.specs.declared.errors.ReadError.TheVariants.{BadLine, NoMemory}
use Rattle.iss_answers.specs.Refusals.{IsBadBody, IsFault}

-- the line with this number has a fault
abbrev pub IsLineRefused : ℕ → List ℕ → ReadError → Type 0
IsLineRefused read line (BadLine number why) = (number ≡ read) × IsFault line why
IsLineRefused read line NoMemory = Unit {0}

abbrev pub IsBodyRefused : List ℕ → ReadError → Type 0
IsBodyRefused body (BadLine line why) = IsBadBody body line why
IsBodyRefused body NoMemory = Unit {0}
