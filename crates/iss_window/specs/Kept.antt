-- What the code keeps for the windows: each client's least number that is missing, a bit for each of the 64 numbers
-- from there on, and the noted identities behind these.
use Rattle.std.specs.Prelude.{◌≡◌, ◌≢◌, ℕ, ◌+◌, ◌-◌, ◌<◌, ◌≤◌, ◌^◌, nat_lt, ◌==◌, Bool, true, if◌then◌else◌, List, length, slice_index}
use Rattle.std.specs.Int.{bit_at}
use Rattle.iss_request.specs.Log.{has_id}
use Rattle.iss_request.specs.declared.ids.ReqId.{ReqId}
use Rattle.iss_window.specs.declared.spans.Span.{Span}
use Rattle.iss_window.specs.Window.{IsLow, Noted}

-- for each client its low watermark and its bits, and the strays of all clients
pub record Kept : Type 0 where
  pub width : ℕ
  pub lows : List ℕ
  pub bits : List ℕ
  pub strays : List ReqId

-- whether the bit at a place is set
abbrev pub is_set : ℕ → ℕ → Bool
is_set bits place = bit_at bits place == 1

-- Whether a client's number is held. All numbers below its low watermark are, the 64 from there on by their bits, and
-- those behind where they are strays.
-- rule: Windows: A number is ordered if it is below its client's least unordered one or was recorded
abbrev pub is_held : ℕ → ℕ → ℕ → Bool → Bool
is_held low bits number is_stray =
    if nat_lt number low then true
    else if nat_lt number (low + 64) then is_set bits (number - low)
    else is_stray

abbrev pub is_noted : List ℕ → List ℕ → List ReqId → ReqId → Bool
is_noted lows bits strays id =
    is_held (slice_index lows id.client) (slice_index bits id.client) id.number (has_id id strays)

-- what is kept represents what was noted
pub record RefinesNoted (k : Kept) (n : Noted) : Type 0 where
  pub noted : (id : ReqId) → is_noted k.lows k.bits k.strays id ≡ has_id id n.all
  pub lows : (client : ℕ) → client < 256 → IsLow n.closed client (slice_index k.lows client)

-- each number of the client has 32 bits
abbrev pub AreNumbers : ℕ → List ReqId → Type 0
AreNumbers client ids = (id : ReqId) → id.client ≡ client → has_id id ids ≡ true → id.number < 2 ^ 32

-- Numbers have 32 bits, so no low watermark is above 2^32, and bits behind the last number are not set. A client's
-- strays lie behind its bits.
pub record IsSpan (client low bits : ℕ) (strays : List ReqId) : Type 0 where
  pub most : low ≤ 2 ^ 32
  pub marked : (place : ℕ) → place < 64 → is_set bits place ≡ true → low + place < 2 ^ 32
  pub behind : (id : ReqId) → id.client ≡ client → has_id id strays ≡ true → low + 64 ≤ id.number
  pub numbers : AreNumbers client strays

-- the spans of all clients
pub record IsTable (lows bits : List ℕ) (strays : List ReqId) : Type 0 where
  pub size : length lows ≡ 256
  pub bits_size : length bits ≡ 256
  pub spans : (client : ℕ) → IsSpan client (slice_index lows client) (slice_index bits client) strays
  pub clients : (id : ReqId) → has_id id strays ≡ true → id.client < 256

-- A client's span moved, and strays became bits of it. It holds the same numbers. The strays of other clients stay.
-- rule: Windows: A stray that comes into its client's 64 numbers becomes a bit
pub record IsMoved (client : ℕ) (old new : Span) (before after : List ReqId) : Type 0 where
  pub same : (id : ReqId) → id.client ≡ client →
      is_held new.low new.bits id.number (has_id id after) ≡ is_held old.low old.bits id.number (has_id id before)
  pub others : (id : ReqId) → id.client ≢ client → has_id id after ≡ has_id id before
  pub span : IsSpan client new.low new.bits after
