-- How certificates and ViewChanges of PBFT are encoded and decoded. A node or slot that does not ascend is itself the
-- field that does not fit. Numbers have their highest byte first; values follow the version of the formats.
--
--   certificate   slot (8 bytes), view (2), value, signature, count (1), that many signers, strictly ascending
--   ViewChange    view (2), count (1), that many certificates with their slots strictly ascending, signature
use Rattle.std.specs.Prelude.{◌≡◌, ◌≤◌, ◌<◌, ℕ, suc, ◌^◌, ◌&&◌, Bool, true, nat_lt, nat_le, List, [], ◌∷◌, ◌++◌, length, Option, Some, None}
use Rattle.std.specs.Int.{to_be_bytes, w16, w64}
use Rattle.std.specs.List.{list_all, flat_map}
use Rattle.iss_request.specs.Formats.{IsSpelledValue, has_spelling, is_signature, parse_signature, parse_value, requests_most, spell_value}
use Rattle.iss_request.specs.Parsing.{Parser, ◌>>=◌, byte, done, number, such_that}
use Rattle.iss_request.specs.declared.ids.NodeId.{NodeId}
use Rattle.iss_request.specs.declared.ids.Slot.{Slot}
use Rattle.iss_request.specs.declared.requests.Value.{Value}
use Rattle.iss_request.specs.declared.requests.Value.TheVariants.{Nil as Value_nil, Batch as Value_batch}
use Rattle.iss_sb.specs.Ascending.{all_ascend, ascending}
use Rattle.iss_sb.specs.Signers.{AreSigners, are_signers, parse_signers, spell_signed}
use Rattle.pbft_wire.specs.declared.messages.Certificate.{Certificate}
use Rattle.pbft_wire.specs.declared.messages.Change.{Change}

-- ---- which have an encoding: numbers in range, counts of one byte, replicas and slots strictly ascending

abbrev pub fits_view : ℕ → Bool
fits_view v = nat_lt v (2 ^ 16)

abbrev pub fits_slot : ℕ → Bool
fits_slot s = nat_lt s (2 ^ 64)

abbrev pub fits_count : ℕ → Bool
fits_count n = nat_le n 255

abbrev pub fits_value : ℕ → Value → Bool
fits_value version Value_nil = true
fits_value version (Value_batch b) = nat_le (length b) (requests_most version) && list_all has_spelling b

abbrev pub fits_certificate : ℕ → Certificate → Bool
fits_certificate version c =
    fits_slot c.slot.0 &&
    (fits_view c.view && (fits_value version c.value &&
    (is_signature c.sig && (fits_count (length c.prepares) && are_signers 0 c.prepares))))

abbrev pub slot_of : Certificate → ℕ
slot_of c = c.slot.0

abbrev pub fits_from : ℕ → ℕ → Certificate → Bool
fits_from version from c = nat_le from c.slot.0 && fits_certificate version c

-- the slots ascend strictly, from this one on
abbrev pub fits_certificates : ℕ → ℕ → List Certificate → Bool
fits_certificates version from cs = all_ascend (fits_from version) slot_of from cs

abbrev pub fits_change : ℕ → ℕ → List Certificate → List ℕ → Bool
fits_change version v cs sig =
    fits_view v && ((fits_count (length cs) && fits_certificates version 0 cs) && is_signature sig)

-- ---- encoding

abbrev pub certificate_bytes : ℕ → Certificate → List ℕ
certificate_bytes version c =
    to_be_bytes w64 c.slot.0 ++ (to_be_bytes w16 c.view ++
    (spell_value version c.value ++ (c.sig ++ (length c.prepares ∷ flat_map spell_signed c.prepares))))

abbrev pub change_bytes : ℕ → ℕ → List Certificate → List ℕ → List ℕ
change_bytes version v cs sig = to_be_bytes w16 v ++ (length cs ∷ (flat_map (certificate_bytes version) cs ++ sig))

-- ---- the table as a relation between certificates, ViewChanges and bytes

pub record IsSpelledCertificate (version : ℕ) (c : Certificate) (bytes : List ℕ) : Type 0 where
  pub slot_fits : c.slot.0 < 2 ^ 64
  pub view_fits : c.view < 2 ^ 16
  pub value : List ℕ
  pub value_is : IsSpelledValue version c.value value
  pub signed : is_signature c.sig ≡ true
  pub few : length c.prepares ≤ 255
  pub votes : AreSigners 0 c.prepares
  pub row : bytes ≡ to_be_bytes w64 c.slot.0 ++
      (to_be_bytes w16 c.view ++ (value ++ (c.sig ++ (length c.prepares ∷ flat_map spell_signed c.prepares))))

-- the slots ascend strictly, from this one on
abbrev pub AreSpelledCertificates : ℕ → ℕ → List Certificate → List ℕ → Type 0
AreSpelledCertificates version from [] bytes = bytes ≡ []
AreSpelledCertificates version from (c ∷ cs) bytes =
    (first : List ℕ) × (others : List ℕ) × (from ≤ c.slot.0) × IsSpelledCertificate version c first ×
    AreSpelledCertificates version (suc c.slot.0) cs others × (bytes ≡ first ++ others)

pub record IsSpelledChange (version v : ℕ) (cs : List Certificate) (sig bytes : List ℕ) : Type 0 where
  pub view_fits : v < 2 ^ 16
  pub few : length cs ≤ 255
  pub certificates : List ℕ
  pub certificates_are : AreSpelledCertificates version 0 cs certificates
  pub signed : is_signature sig ≡ true
  pub row : bytes ≡ to_be_bytes w16 v ++ (length cs ∷ (certificates ++ sig))

-- ---- decoding. A replica or slot that does not ascend is itself the bad field

unfoldable pub count : Parser ℕ
count = such_that fits_count byte

-- a certificate of this slot or a higher one
unfoldable pub parse_certificate : ℕ → ℕ → Parser Certificate
parse_certificate version from = do
  slot ← such_that (λ s. nat_le from s) (number w64)
  view ← number w16
  value ← parse_value version
  sig ← parse_signature
  votes ← count
  prepares ← parse_signers votes 0
  done (record { slot = record { 0 = slot }; view = view; value = value; sig = sig; prepares = prepares })

abbrev pub parse_certificates : ℕ → ℕ → ℕ → Parser (List Certificate)
parse_certificates version many from = ascending (parse_certificate version) slot_of many from

-- the ViewChange of this replica
unfoldable pub parse_change : ℕ → ℕ → Parser Change
parse_change version node = do
  view ← number w16
  many ← count
  certificates ← parse_certificates version many 0
  sig ← parse_signature
  done (record { node = record { 0 = node }; view = view; certificates = certificates; sig = sig })

-- ---- the lowest replica or slot that may follow the last one, or come first

abbrev pub after_node : Option NodeId → ℕ
after_node None = 0
after_node (Some k) = suc k.0

abbrev pub after_slot : Option Slot → ℕ
after_slot None = 0
after_slot (Some s) = suc s.0
