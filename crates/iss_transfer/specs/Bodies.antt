-- How asks and pieces are encoded in the bodies of their packets, whose head names the epoch.
--
--   ask      nothing
--   piece    count (1 byte), and that many values; the certificate of the same epoch
use Rattle.std.specs.Prelude.{◌≡◌, ℕ, ◌<◌, nat_lt, ◌==◌, ◌&&◌, Bool, List, [], ◌∷◌, ◌++◌, length, if◌then◌else◌}
use Rattle.std.specs.List.{flat_map}
use Rattle.iss_request.specs.Formats.{IsSpelledValue, parse_value, spell_value}
use Rattle.iss_request.specs.Parsing.{Parser, ◌>>=◌, byte, done, such_that, times}
use Rattle.iss_request.specs.declared.requests.Value.{Value}
use Rattle.iss_checkpoint.specs.Certificates.{IsSpelledCert, parse_cert, spell_cert}
use Rattle.iss_transfer.specs.declared.pieces.Ask.{Ask}
use Rattle.iss_transfer.specs.declared.pieces.Piece.{Piece}

-- ---- asks

abbrev pub spell_ask : Ask → List ℕ
spell_ask a = []

-- rule: Transfer: An ask has an empty body
unfoldable pub parse_ask : ℕ → Parser Ask
parse_ask e = done (record { epoch = record { 0 = e } })

-- ---- pieces

abbrev pub fits : Piece → Bool
fits p = (p.cert.epoch.0 == p.epoch.0) && nat_lt (length p.values) 256

abbrev pub piece_row : ℕ → Piece → List ℕ
piece_row version p = length p.values ∷ (flat_map (spell_value version) p.values ++ spell_cert p.cert)

-- A piece without an encoding is written as these bytes, whose one value is neither nil nor a batch: they decode to no
-- piece.
abbrev pub no_piece : List ℕ
no_piece = 1 ∷ 3 ∷ []

abbrev pub spell_piece : ℕ → Piece → List ℕ
spell_piece version p = if fits p then piece_row version p else no_piece

unfoldable pub parse_piece : ℕ → ℕ → Parser Piece
parse_piece version e = do
  count ← such_that (λ n. nat_lt n 256) byte
  values ← times count (parse_value version)
  cert ← parse_cert e
  done (record { epoch = record { 0 = e }; values = values; cert = cert })

-- ---- the table as a relation between the pieces of an epoch and bytes

-- the encodings of the values, one after the other
abbrev pub AreSpelledValues : ℕ → List Value → List ℕ → Type 0
AreSpelledValues version [] bytes = bytes ≡ []
AreSpelledValues version (v ∷ vs) bytes =
    (first : List ℕ) × (others : List ℕ) × IsSpelledValue version v first × AreSpelledValues version vs others
    × (bytes ≡ first ++ others)

-- rule: Transfer: A piece has one encoding a version: count, values, and the certificate of its epoch
pub record IsSpelledPiece (version e : ℕ) (p : Piece) (bytes : List ℕ) : Type 0 where
  pub own : p.epoch.0 ≡ e
  pub count_fits : length p.values < 256
  pub front : List ℕ
  pub values_spelled : AreSpelledValues version p.values front
  pub behind : List ℕ
  pub cert_spelled : IsSpelledCert e p.cert behind
  pub row : bytes ≡ length p.values ∷ (front ++ behind)
