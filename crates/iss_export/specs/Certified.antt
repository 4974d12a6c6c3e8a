-- What is printed of a certified log: a line for each slot, as in the block of a report, and the number of its epochs,
-- slots and requests.
use Rattle.std.specs.Prelude.{◌≡◌, ℕ, List, [], ◌∷◌, ◌++◌, codes, decimal, length, reverse}
use Rattle.iss_audit.specs.Exports.{log_of}
use Rattle.iss_audit.specs.declared.exports.CertifiedEpoch.{CertifiedEpoch}
use Rattle.iss_replay.specs.Text.{slot_lines}
use Rattle.iss_request.specs.Log.{requests}
use Rattle.iss_request.specs.declared.requests.Value.{Value}
use Rattle.iss_export.specs.declared.printing.Place.{Place}

abbrev pub certified_line : ℕ → ℕ → ℕ → List ℕ
certified_line epochs slots requests = codes "certified epochs " ++ decimal epochs ++ codes " slots " ++ decimal slots
    ++ codes " requests " ++ decimal requests ++ 10 ∷ []

-- rule: Audit: A certified log is printed slot by slot, with the number of its epochs, slots and requests
abbrev pub certified_text : List CertifiedEpoch → List ℕ
certified_text epochs = slot_lines (reverse (log_of epochs))
    ++ certified_line (length epochs) (length (log_of epochs)) (requests (log_of epochs))

-- ---- for private functions alone

-- the place after a log
abbrev pub place_behind : List Value → Place
place_behind log = record { slot = length log; first = requests log }

-- the lines of a log were printed behind a text, up to this place
pub record HasPrinted (log : List Value) (text now : List ℕ) (end : Place) : Type 0 where
  pub lines : now ≡ text ++ slot_lines (reverse log)
  pub place : end ≡ place_behind log
