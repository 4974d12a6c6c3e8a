-- What is seen of a log: the values that joined it in slot order, and the values filled ahead of it. Filling a slot
-- tells whether it is past, filled already, or filled now. Advancing makes the log the longest run of filled slots
-- from 0. The number of a request is that of the requests before it; nil has none.
use Rattle.std.specs.Prelude.{◌≡◌, ℕ, ◌<◌, ◌≤◌, nat_lt, ◌==◌, List, [], ◌++◌, length, take, Option, Some, None, IsSome, slice_get, slice_index, if◌then◌else◌, Result, Ok, Err}
use Rattle.std.specs.Map.{lookup}
use Rattle.std.specs.Ordering.{is_eq, nat_cmp}
use Rattle.iss_base.specs.Lists.{first_of}
use Rattle.iss_request.specs.Log.{requests}
use Rattle.iss_request.specs.declared.errors.NoMemory.{NoMemory}
use Rattle.iss_request.specs.declared.requests.Value.{Value}
use Rattle.iss_log.specs.declared.log.Fill.{Fill}
use Rattle.iss_log.specs.declared.log.Fill.TheVariants.{Filled, Already, Past}

pub record LogState : Type 0 where
  -- the value of slot 0, of slot 1, and so on
  pub entries : List Value
  -- filled slots that have not joined the log, with their values
  pub ahead : List (ℕ × Value)

abbrev pub empty_log : LogState
empty_log = record { entries = []; ahead = [] }

abbrev pub ahead_at : List (ℕ × Value) → ℕ → Option Value
ahead_at ahead s = lookup (λ t. is_eq (nat_cmp s t)) ahead

-- the value that a slot holds, in the log or ahead of it
abbrev pub value_at : LogState → ℕ → Option Value
value_at l s = first_of (slice_get l.entries s) (ahead_at l.ahead s)

-- The number of a slot's first request, which is the count of requests in earlier slots. None past the log.
-- rule: Log: A request's number is the sum of earlier batch sizes plus its place; nil counts 0
abbrev pub first_number_of : List Value → ℕ → Option ℕ
first_number_of entries s = if nat_lt s (length entries) then Some (requests (take s entries)) else None

-- the slot took a value; other slots and the log are unchanged
pub record IsFilled (old : LogState) (slot : ℕ) (value : Value) (new : LogState) : Type 0 where
  pub was_empty : value_at old slot ≡ None
  pub values : (s : ℕ) → value_at new s ≡ (if slot == s then Some value else value_at old s)
  pub entries : new.entries ≡ old.entries

-- the slot is in the log already: nothing changes
pub record IsPast (old : LogState) (slot : ℕ) (new : LogState) : Type 0 where
  pub below : slot < length old.entries
  pub same : new ≡ old

-- the slot ahead of the log is filled already: nothing changes
pub record IsAlready (old : LogState) (slot : ℕ) (new : LogState) : Type 0 where
  pub not_below : length old.entries ≤ slot
  pub holds : IsSome (value_at old slot)
  pub same : new ≡ old

-- what filling a slot does, by its result
-- rule: Log: A slot is filled once
abbrev pub IsFill : LogState → ℕ → Value → LogState → Result Fill NoMemory → Type 0
IsFill old slot value new (Ok Filled) = IsFilled old slot value new
IsFill old slot value new (Ok Already) = IsAlready old slot new
IsFill old slot value new (Ok Past) = IsPast old slot new
IsFill old slot value new (Err e) = new ≡ old

-- All values that follow without a gap have joined. No value is lost or changed, and the next slot is empty. So the log
-- is the longest sequence of filled slots from 0.
pub record IsAdvanced (old new : LogState) (slots : ℕ) : Type 0 where
  pub joined : List Value
  pub entries : new.entries ≡ old.entries ++ joined
  pub count : length joined ≡ slots
  pub values : (s : ℕ) → value_at new s ≡ value_at old s
  pub hole : value_at new (length new.entries) ≡ None

-- the old log is a prefix of the new one
abbrev pub GoesOn : List Value → List Value → Type 0
GoesOn old new = (joined : List Value) × (new ≡ old ++ joined)

-- the numbers kept with the values: each slot's first request number, and the count of all requests
pub record AreNumbered (entries : List Value) (firsts : List ℕ) (count : ℕ) : Type 0 where
  pub size : length firsts ≡ length entries
  pub first : (s : ℕ) → s < length entries → slice_index firsts s ≡ requests (take s entries)
  pub all : count ≡ requests entries

-- the slots ahead, without this one
abbrev pub IsWithout : List (ℕ × Value) → ℕ → List (ℕ × Value) → Type 0
IsWithout old slot new = (s : ℕ) → ahead_at new s ≡ (if slot == s then None else ahead_at old s)
