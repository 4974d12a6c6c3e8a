-- The windows of the clients, as functions of the identities that were noted and of the ends of epochs. A client's
-- window begins at its least number that was not noted before the last epoch's end. A number outside its window is
-- refused.
use Rattle.std.specs.Prelude.{◌≡◌, ℕ, zero, suc, ◌+◌, ◌<◌, nat_lt, Bool, true, false, if◌then◌else◌, List, [], ◌∷◌, length}
use Rattle.iss_request.specs.Log.{has_id}
use Rattle.iss_request.specs.declared.ids.ReqId.{ReqId}
use Rattle.iss_window.specs.declared.windows.Place.{Place}
use Rattle.iss_window.specs.declared.windows.Place.TheVariants.{Below, Inside, Above}

-- all noted identities, and those noted before the last epoch's end
pub record Noted : Type 0 where
  pub all : List ReqId
  pub closed : List ReqId

abbrev pub none_noted : Noted
none_noted = record { all = []; closed = [] }

-- one more identity is noted
abbrev pub and_noted : Noted → ReqId → Noted
and_noted n id = record { all = id ∷ n.all; closed = n.closed }

-- the epoch ends
abbrev pub and_closed : Noted → Noted
and_closed n = record { all = n.all; closed = n.all }

abbrev pub id_of : ℕ → ℕ → ReqId
id_of client number = record { client = client; number = number }

-- the client's least number from a given one on that is not in the list, searching the first n numbers
abbrev pub low_from : ℕ → List ReqId → ℕ → ℕ → ℕ
low_from zero ids client number = number
low_from (suc more) ids client number =
    if has_id (id_of client number) ids then low_from more ids client (suc number) else number

-- The client's low watermark: its least number that is not in the list. Among its first length + 1 numbers one is
-- missing.
-- rule: Windows: A client's window begins at its least number that was not ordered before the epoch
abbrev pub low : List ReqId → ℕ → ℕ
low ids client = low_from (length ids) ids client 0

-- the number is not in the list, and all smaller ones are
pub record IsLow (ids : List ReqId) (client number : ℕ) : Type 0 where
  pub absent : has_id (id_of client number) ids ≡ false
  pub below : (t : ℕ) → t < number → has_id (id_of client t) ids ≡ true

-- whether a number is below, inside or above the window of this width
-- rule: Windows: A number is inside its window from the first number on, up to the window's width
abbrev pub place_in : ℕ → ℕ → ℕ → Place
place_in low width number = if nat_lt number low then Below else if nat_lt number (low + width) then Inside else Above

-- the same for an identity, given the identities noted before the epoch
-- rule: Epochs: Windows move at the end of an epoch
abbrev pub place_of : ℕ → List ReqId → ReqId → Place
place_of width closed id = place_in (low closed id.client) width id.number

abbrev pub is_inside : Place → Bool
is_inside Below = false
is_inside Inside = true
is_inside Above = false
