-- Where a reader stands in the lines of a text, for private functions alone.
use Rattle.std.specs.Prelude.{◌≡◌, ◌≢◌, ◌⊎◌, ◌<◌, ◌≤◌, ◌+◌, ℕ, List, [], ◌∷◌, ◌++◌, length, map, Result, Ok, Err}
use Rattle.iss_request.specs.Setup.{AreAscendingBelow}
use Rattle.iss_request.specs.declared.ids.NodeId.{NodeId}
use Rattle.iss_request.specs.declared.setups.Kind.{Kind}
use Rattle.iss_request.specs.declared.setups.Kind.TheVariants.{Byzantine, Stopping}
use Rattle.iss_request.specs.declared.setups.Setup.{Setup}
use Rattle.iss_schedule.specs.declared.errors.ReadError.{ReadError}
use Rattle.iss_schedule.specs.declared.errors.ReadError.TheVariants.{BadLine, NoMemory}
use Rattle.iss_schedule.specs.declared.schedules.Event.{Event}
use Rattle.iss_schedule.specs.declared.errors.LineFault.{LineFault}
use Rattle.iss_schedule.specs.declared.errors.LineFault.TheVariants.{Cut, Form, Faulty, Injected, Range, Size}
use Rattle.iss_schedule.specs.BadLines.{IsNext}
use Rattle.iss_schedule.specs.Forms.{IsFieldFormed, IsFaultyFormed, IsEventFault}
use Rattle.iss_schedule.specs.Headers.{HeaderField, faulty_line, spell_value, IsValue, IsGoodLine}
use Rattle.iss_schedule.specs.Events.{spell_event, IsInRange, AreInRange}
use Rattle.iss_schedule.specs.Schedules.{most_events}
use Rattle.iss_schedule.specs.Words.{Lacks, ended}

-- the text that is still to be read, and how many lines were read
pub record Place : Type 0 where
  pub rest : List ℕ
  pub read : ℕ

-- the reader consumed this line
pub record GoesPast (line : List ℕ) (old new : Place) : Type 0 where
  pub text : old.rest ≡ line ++ 10 ∷ new.rest
  pub whole : Lacks 10 line

-- what is wrong with the rest of a header, whose next line should have this form and range
abbrev pub IsLineFault : (List ℕ → Type 0) → (List ℕ → Type 0) → List ℕ → LineFault → Type 0
IsLineFault IsFormed IsGood rest Cut = Lacks 10 rest
IsLineFault IsFormed IsGood rest Form = (line : List ℕ) × (IsNext line rest × ¬ IsFormed line)
IsLineFault IsFormed IsGood rest Range = (line : List ℕ) × (IsNext line rest × IsFormed line × ¬ IsGood line)
IsLineFault IsFormed IsGood rest Faulty = ⊥
IsLineFault IsFormed IsGood rest Injected = ⊥
IsLineFault IsFormed IsGood rest Size = ⊥

abbrev pub IsFieldFault : HeaderField → List ℕ → List ℕ → LineFault → Type 0
IsFieldFault f above rest why = IsLineFault (IsFieldFormed f) (IsGoodLine f above) rest why

-- what was read of a line: the value in range that it encodes, or what is wrong with it
abbrev pub ReadsLine : HeaderField → List ℕ → List ℕ → Result ℕ LineFault → Type 0
ReadsLine f above line (Ok v) = (line ≡ spell_value f v) × IsValue f above v
ReadsLine f above line (Err Cut) = ⊥
ReadsLine f above line (Err Form) = ¬ IsFieldFormed f line
ReadsLine f above line (Err Range) = IsFieldFormed f line × ¬ IsGoodLine f above line
ReadsLine f above line (Err Faulty) = ⊥
ReadsLine f above line (Err Injected) = ⊥
ReadsLine f above line (Err Size) = ⊥

-- at most `most` nodes, strictly ascending, with numbers below n
abbrev pub AreFew : ℕ → ℕ → List NodeId → Type 0
AreFew most n nodes = (length nodes ≤ most) × AreAscendingBelow 0 n nodes

-- how many nodes may be faulty: f, and none in the crash model
abbrev pub most_faulty : Kind → ℕ → ℕ
most_faulty Byzantine f = f
most_faulty Stopping f = 0

-- what is wrong with a line that should name faulty nodes
abbrev pub IsFaultyLineFault : ℕ → ℕ → List ℕ → LineFault → Type 0
IsFaultyLineFault most n rest Cut = Lacks 10 rest
IsFaultyLineFault most n rest Form = (line : List ℕ) × (IsNext line rest × ¬ IsFaultyFormed line)
IsFaultyLineFault most n rest Faulty =
    (line : List ℕ) × (IsNext line rest × IsFaultyFormed line
    × ((is : List NodeId) → AreFew most n is → line ≢ faulty_line is))
IsFaultyLineFault most n rest Injected = ⊥
IsFaultyLineFault most n rest Range = ⊥
IsFaultyLineFault most n rest Size = ⊥

abbrev pub IsFaultyRefused : ℕ → ℕ → Place → ReadError → Type 0
IsFaultyRefused most n old (BadLine line why) = (line ≡ old.read + 1) × IsFaultyLineFault most n old.rest why
IsFaultyRefused most n old NoMemory = Unit {0}

-- the next line is no event in range: no line feed follows, or it has a fault and encodes no event in range
abbrev pub IsEventBad : Setup → List ℕ → LineFault → Type 0
IsEventBad s rest Cut = Lacks 10 rest
IsEventBad s rest why = (line : List ℕ)
    × (IsNext line rest × IsEventFault s line why × ((e : Event) → IsInRange s e → line ≢ spell_event e))

-- the reader of one event reports this fault for its line
abbrev pub IsEventRefused : Setup → Place → ReadError → Type 0
IsEventRefused s old (BadLine line why) = (line ≡ old.read + 1) × IsEventBad s old.rest why
IsEventRefused s old NoMemory = Unit {0}

-- after events in range, the next line is bad or is one too many
pub record IsEventsBad (s : Setup) (text : List ℕ) (line : ℕ) (why : LineFault) : Type 0 where
  pub events : List Event
  pub rest : List ℕ
  pub front : text ≡ ended (map spell_event events) ++ rest
  pub range : AreInRange s events
  pub some : rest ≢ []
  pub number : line ≡ 12 + length events
  pub few : length events ≤ most_events
  pub bad : ((why ≡ Size) × (length events ≡ most_events)) ⊎ ((length events < most_events) × IsEventBad s rest why)

abbrev pub IsEventsRefused : Setup → List ℕ → ReadError → Type 0
IsEventsRefused s text (BadLine line why) = IsEventsBad s text line why
IsEventsRefused s text NoMemory = Unit {0}
