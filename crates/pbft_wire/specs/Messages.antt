-- How the messages of PBFT are encoded and decoded. The table is also stated as a relation, so each message has
-- exactly one encoding. Numbers have their highest byte first.
--
--   message      its number (1 byte), the fields of its body, its sender's signature
--   PrePrepare   1: view (2), slot (8), value
--   Prepare      2: view (2), slot (8), digest (32)
--   Commit       3: view (2), slot (8), digest (32)
--   ViewChange   4: view (2), count (1), that many certificates with their slots strictly ascending
--   NewView      5: view (2), count (1), that many ViewChanges, each a node (1) and the ViewChange's fields and
--                signature, with the nodes strictly ascending, count (1), that many signatures
use Rattle.std.specs.Prelude.{◌≡◌, ◌≤◌, ◌<◌, ℕ, suc, ◌^◌, ◌==◌, ◌&&◌, ◌||◌, Bool, true, nat_le, List, [], ◌∷◌, ◌++◌, length, if◌then◌else◌}
use Rattle.std.specs.Int.{to_be_bytes, w16, w64}
use Rattle.std.specs.List.{list_all, flat_map}
use Rattle.iss_request.specs.Formats.{IsSpelledValue, is_signature, parse_signature, parse_value, spell_value}
use Rattle.iss_request.specs.Parsing.{Parser, ◌>>=◌, block, byte, done, number, such_that, times}
use Rattle.iss_request.specs.declared.ids.Slot.{Slot}
use Rattle.iss_sb.specs.Ascending.{all_ascend, ascending}
use Rattle.pbft_wire.specs.declared.messages.Change.{Change}
use Rattle.pbft_wire.specs.declared.messages.Message.{Message}
use Rattle.pbft_wire.specs.declared.messages.Body.{Body}
use Rattle.pbft_wire.specs.declared.messages.Body.TheVariants.{PrePrepare as Pre_prepare_body, Prepare as Prepare_body, Commit as Commit_body, ViewChange as View_change_body, NewView as New_view_body}
use Rattle.pbft_wire.specs.Signed.{PrePrepare, Prepare, Commit, ViewChange, NewView}
use Rattle.pbft_wire.specs.Certificates.{IsSpelledChange, change_bytes, count, fits_change, fits_count, fits_slot, fits_value, fits_view, parse_change}

-- ---- which messages have an encoding

abbrev pub node_of_change : Change → ℕ
node_of_change x = x.node.0

abbrev pub fits_node_change : ℕ → ℕ → Change → Bool
fits_node_change version from x = nat_le from x.node.0 && fits_change version x.view x.certificates x.sig

-- the senders ascend strictly, from this one on
abbrev pub fits_changes : ℕ → ℕ → List Change → Bool
fits_changes version from xs = all_ascend (fits_node_change version) node_of_change from xs

abbrev pub fits_at : ℕ → ℕ → List ℕ → List ℕ → Bool
fits_at v s d sig = fits_view v && (fits_slot s && ((length d == 32) && is_signature sig))

abbrev pub fits_signed : ℕ → Body → List ℕ → Bool
fits_signed version (Pre_prepare_body v slot x) sig =
    fits_view v && (fits_slot slot.0 && (fits_value version x && is_signature sig))
fits_signed version (Prepare_body v slot d) sig = fits_at v slot.0 d sig
fits_signed version (Commit_body v slot d) sig = fits_at v slot.0 d sig
fits_signed version (View_change_body v cs) sig = fits_change version v cs sig
fits_signed version (New_view_body v xs sigs) sig =
    fits_view v && ((fits_count (length xs) && fits_changes version 0 xs) &&
    ((fits_count (length sigs) && list_all is_signature sigs) && is_signature sig))

abbrev pub fits : ℕ → Message → Bool
fits version msg = fits_signed version msg.body msg.sig

-- ---- encoding. A message without one is written as the number of no message

abbrev pub node_change_bytes : ℕ → Change → List ℕ
node_change_bytes version x = x.node.0 ∷ change_bytes version x.view x.certificates x.sig

abbrev pub at_bytes : ℕ → ℕ → List ℕ → List ℕ
at_bytes v s rest = to_be_bytes w16 v ++ (to_be_bytes w64 s ++ rest)

abbrev pub as_is : List ℕ → List ℕ
as_is sig = sig

abbrev pub new_bytes : ℕ → ℕ → List Change → List (List ℕ) → List ℕ → List ℕ
new_bytes version v xs sigs sig =
    to_be_bytes w16 v ++
    (length xs ∷ (flat_map (node_change_bytes version) xs ++ (length sigs ∷ (flat_map as_is sigs ++ sig))))

abbrev pub signed_bytes : ℕ → Body → List ℕ → List ℕ
signed_bytes version (Pre_prepare_body v slot x) sig = 1 ∷ at_bytes v slot.0 (spell_value version x ++ sig)
signed_bytes version (Prepare_body v slot d) sig = 2 ∷ at_bytes v slot.0 (d ++ sig)
signed_bytes version (Commit_body v slot d) sig = 3 ∷ at_bytes v slot.0 (d ++ sig)
signed_bytes version (View_change_body v cs) sig = 4 ∷ change_bytes version v cs sig
signed_bytes version (New_view_body v xs sigs) sig = 5 ∷ new_bytes version v xs sigs sig

abbrev pub message_bytes : ℕ → Message → List ℕ
message_bytes version msg = signed_bytes version msg.body msg.sig

abbrev pub no_message : List ℕ
no_message = 0 ∷ []

abbrev pub spell : ℕ → Message → List ℕ
spell version msg = if fits version msg then message_bytes version msg else no_message

-- ---- the table as a relation between messages and bytes

-- the senders ascend strictly, from this one on
abbrev pub AreSpelledChanges : ℕ → ℕ → List Change → List ℕ → Type 0
AreSpelledChanges version from [] bytes = bytes ≡ []
AreSpelledChanges version from (x ∷ xs) bytes =
    (first : List ℕ) × (others : List ℕ) × (from ≤ x.node.0) ×
    IsSpelledChange version x.view x.certificates x.sig first ×
    AreSpelledChanges version (suc x.node.0) xs others × (bytes ≡ x.node.0 ∷ (first ++ others))

abbrev pub AreSpelledSignatures : List (List ℕ) → List ℕ → Type 0
AreSpelledSignatures [] bytes = bytes ≡ []
AreSpelledSignatures (sig ∷ sigs) bytes =
    (others : List ℕ) × (is_signature sig ≡ true) × AreSpelledSignatures sigs others × (bytes ≡ sig ++ others)

-- a Prepare or a Commit
pub record IsSpelledAt (kind v s : ℕ) (d sig bytes : List ℕ) : Type 0 where
  pub view_fits : v < 2 ^ 16
  pub slot_fits : s < 2 ^ 64
  pub long : length d ≡ 32
  pub signed : is_signature sig ≡ true
  pub row : bytes ≡ kind ∷ at_bytes v s (d ++ sig)

pub record IsSpelledNew (version v : ℕ) (xs : List Change) (sigs : List (List ℕ)) (sig bytes : List ℕ) : Type 0 where
  pub view_fits : v < 2 ^ 16
  pub few : length xs ≤ 255
  pub changes : List ℕ
  pub changes_are : AreSpelledChanges version 0 xs changes
  pub few_signatures : length sigs ≤ 255
  pub signatures : List ℕ
  pub signatures_are : AreSpelledSignatures sigs signatures
  pub signed : is_signature sig ≡ true
  pub row : bytes ≡ 5 ∷ (to_be_bytes w16 v ++ (length xs ∷ (changes ++ (length sigs ∷ (signatures ++ sig)))))

abbrev pub IsSpelledSigned : ℕ → Body → List ℕ → List ℕ → Type 0
IsSpelledSigned version (Pre_prepare_body v slot x) sig bytes =
    (v < 2 ^ 16) × (slot.0 < 2 ^ 64) × (is_signature sig ≡ true) ×
    ((value : List ℕ) × IsSpelledValue version x value × (bytes ≡ 1 ∷ at_bytes v slot.0 (value ++ sig)))
IsSpelledSigned version (Prepare_body v slot d) sig bytes = IsSpelledAt 2 v slot.0 d sig bytes
IsSpelledSigned version (Commit_body v slot d) sig bytes = IsSpelledAt 3 v slot.0 d sig bytes
IsSpelledSigned version (View_change_body v cs) sig bytes =
    (fields : List ℕ) × IsSpelledChange version v cs sig fields × (bytes ≡ 4 ∷ fields)
IsSpelledSigned version (New_view_body v xs sigs) sig bytes = IsSpelledNew version v xs sigs sig bytes

-- rule: PBFT: A message has one encoding, with replicas and slots strictly ascending
abbrev pub IsSpelledMessage : ℕ → Message → List ℕ → Type 0
IsSpelledMessage version msg bytes = IsSpelledSigned version msg.body msg.sig bytes

-- ---- decoding

-- the ViewChange of this replica or a higher one
unfoldable pub parse_node_change : ℕ → ℕ → Parser Change
parse_node_change version from = do
  node ← such_that (λ k. nat_le from k) byte
  parse_change version node

abbrev pub parse_changes : ℕ → ℕ → ℕ → Parser (List Change)
parse_changes version many from = ascending (parse_node_change version) node_of_change many from

unfoldable pub parse_pre_prepare : ℕ → Parser Message
parse_pre_prepare version = do
  view ← number w16
  slot ← number w64
  value ← parse_value version
  sig ← parse_signature
  done (PrePrepare view (record { 0 = slot }) value sig)

-- a Prepare or a Commit
unfoldable pub parse_at : (ℕ → Slot → List ℕ → List ℕ → Message) → Parser Message
parse_at make = do
  view ← number w16
  slot ← number w64
  d ← block 32
  sig ← parse_signature
  done (make view (record { 0 = slot }) d sig)

abbrev pub prepare : ℕ → Slot → List ℕ → List ℕ → Message
prepare v slot d sig = Prepare v slot d sig

abbrev pub commit : ℕ → Slot → List ℕ → List ℕ → Message
commit v slot d sig = Commit v slot d sig

-- the sender is not part of the encoding, so any number will do here
unfoldable pub parse_view_change : ℕ → Parser Message
parse_view_change version = do
  change ← parse_change version 0
  done (ViewChange change.view change.certificates change.sig)

unfoldable pub parse_new_view : ℕ → Parser Message
parse_new_view version = do
  view ← number w16
  first ← count
  changes ← parse_changes version first 0
  second ← count
  signatures ← times second parse_signature
  sig ← parse_signature
  done (NewView view changes signatures sig)

abbrev pub is_known : ℕ → Bool
is_known n = (n == 1) || ((n == 2) || ((n == 3) || ((n == 4) || (n == 5))))

abbrev pub fields_of : ℕ → ℕ → Parser Message
fields_of version n =
    if n == 1 then parse_pre_prepare version else
    (if n == 2 then parse_at prepare else
    (if n == 3 then parse_at commit else (if n == 4 then parse_view_change version else parse_new_view version)))

-- the message's number says which fields follow
unfoldable pub parse : ℕ → Parser Message
parse version = do
  message ← such_that is_known byte
  fields_of version message
