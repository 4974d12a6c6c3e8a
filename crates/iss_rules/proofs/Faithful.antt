-- What packet formats must satisfy.
use Rattle.std.specs.Prelude.{◌≡◌, ◌⊎◌, ℕ, ◌<◌, Bool, true, false, List, Some, None}
use Rattle.iss_base.specs.Lists.{In}
use Rattle.iss_request.specs.Fields.{IsReadAgain}
use Rattle.iss_request.specs.Formats.{HasSpelling, parse_value, spell_value}
use Rattle.iss_request.specs.declared.requests.Request.{Request}
use Rattle.iss_request.specs.declared.requests.Value.{Value}
use Rattle.iss_request.specs.declared.setups.Setup.{Setup}
use Rattle.iss_sb.specs.Evidence.{Module}
use Rattle.iss_transfer.specs.declared.pieces.Piece.{Piece}
use Rattle.iss_rules.specs.Parcels.{Body, Formats, OfAsk, OfModule, OfPiece, OfRequest, OfVote, Parcel}

-- what was encoded decodes to itself, or to nothing
abbrev pub IsReadBack : {Msg : Type 0} → Formats Msg → Parcel Msg → Type 0
IsReadBack F k = (F.unwrap (F.wrap k) ≡ Some k) ⊎ (F.unwrap (F.wrap k) ≡ None)

-- whether a parcel holds a module's message
abbrev pub is_message : {Msg : Type 0} → Body Msg → Bool
is_message (OfModule l msg) = true
is_message (OfVote v) = false
is_message OfAsk = false
is_message (OfPiece p) = false
is_message (OfRequest q) = false

-- a value that decodes from its encoding
abbrev pub IsReadValue : Setup → Value → Type 0
IsReadValue s v = IsReadAgain (spell_value s.version) (parse_value s.version) v

-- Formats are faithful: a node's messages and requests decode as encoded, and nothing else decodes to a message. A
-- decoded request has an encoding. A decoded message has an existing sender, and decodes from its own encoding; so do
-- the values of a piece.
pub record IsFaithful {Msg : Type 0} (s : Setup) (F : Formats Msg) (M : Module Msg) : Type 0 where
  pub messages : (from e l : ℕ) (msg : Msg) → from < s.n → l < s.n →
      IsReadBack F (record { from = from; epoch = e; body = OfModule l msg })
  pub requests : (q : Request) → IsReadBack F (record { from = 255; epoch = 0; body = OfRequest q })
  pub others : (k j : Parcel Msg) → is_message k.body ≡ false → F.unwrap (F.wrap k) ≡ Some j → is_message j.body ≡ false
  pub asked : (bytes : List ℕ) (k : Parcel Msg) (q : Request) → F.unwrap bytes ≡ Some k → k.body ≡ OfRequest q → HasSpelling q
  pub told : (bytes : List ℕ) (k : Parcel Msg) (l : ℕ) (msg : Msg) → F.unwrap bytes ≡ Some k → k.body ≡ OfModule l msg →
      (k.from < s.n) × IsReadAgain (M.spell s.version) (M.parse s.version) msg
  pub pieced : (bytes : List ℕ) (k : Parcel Msg) (p : Piece) → F.unwrap bytes ≡ Some k → k.body ≡ OfPiece p → (v : Value) → In v p.values → IsReadValue s v
