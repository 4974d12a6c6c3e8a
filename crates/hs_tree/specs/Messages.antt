-- How the six messages of HotStuff are encoded and decoded, for any number of phases and version of the formats. The
-- table is also stated as a relation, so each message has exactly one encoding. A bad field is named where it stands:
-- among votes it is the first node that does not ascend. Numbers have their highest byte first.
--
--   message       its body, its sender's signature
--   body          its number (1 byte), its fields:
--   NewView       1: round (2), certificate
--   Prepare       2: view (4), what the node holds (as in an entry of Raft's log), certificate
--   PreCommit, Commit, Decide     3, 4, 5: view (4), certificate; where nodes pass three phases
--   Vote          6: phase (1), view (4), digest (32)
use Rattle.std.specs.Prelude.{◌≡◌, ◌≤◌, ◌<◌, ℕ, ◌^◌, ◌==◌, ◌&&◌, ◌||◌, Bool, true, nat_lt, nat_le, List, [], ◌∷◌, ◌++◌, length, if◌then◌else◌}
use Rattle.std.specs.Int.{to_be_bytes, w16, w32}
use Rattle.iss_request.specs.Formats.{is_signature, parse_signature}
use Rattle.iss_request.specs.Parsing.{Parser, ◌>>=◌, block, byte, done, number, such_that}
use Rattle.iss_sb.specs.declared.content.Content.{Content}
use Rattle.iss_sb.specs.Content.{IsSpelledContent, parse_content, spell_content}
use Rattle.hs_tree.specs.declared.certificates.Certificate.{Certificate}
use Rattle.hs_tree.specs.declared.messages.Message.{Message}
use Rattle.hs_tree.specs.declared.messages.Body.{Body}
use Rattle.hs_tree.specs.declared.messages.Body.TheVariants.{NewView, Prepare, PreCommit, Commit, Decide, Vote}
use Rattle.hs_tree.specs.Certificates.{IsSpelledCertificate, is_phase, parse_certificate, spell_certificate}

-- a body with its sender's signature
abbrev pub signed : Body → List ℕ → Message
signed body sig = record { body = body; sig = sig }

-- ---- Which bodies have an encoding

-- PreCommit, Commit and Decide exist only with three phases
abbrev pub has_shows : ℕ → Bool
has_shows phases = phases == 3

abbrev pub is_view : ℕ → Bool
is_view view = nat_lt view (2 ^ 32)

abbrev pub fits_vote : ℕ → ℕ → ℕ → List ℕ → Bool
fits_vote phases phase view d = is_phase phases phase && (is_view view && (length d == 32))

-- ---- Encoding. A message without one is written with number 0, which no reader accepts

abbrev pub new_view_row : ℕ → List ℕ → List ℕ
new_view_row round certificate = 1 ∷ (to_be_bytes w16 round ++ certificate)

abbrev pub prepare_row : ℕ → List ℕ → List ℕ → List ℕ
prepare_row view what certificate = 2 ∷ (to_be_bytes w32 view ++ (what ++ certificate))

abbrev pub shown_row : ℕ → ℕ → List ℕ → List ℕ
shown_row kind view certificate = kind ∷ (to_be_bytes w32 view ++ certificate)

abbrev pub vote_row : ℕ → ℕ → List ℕ → List ℕ
vote_row phase view d = 6 ∷ (phase ∷ (to_be_bytes w32 view ++ d))

abbrev pub no_message : List ℕ
no_message = 0 ∷ []

abbrev pub spell_shown : ℕ → ℕ → ℕ → Certificate → List ℕ
spell_shown phases kind view shown =
    if has_shows phases && is_view view then shown_row kind view (spell_certificate phases shown) else no_message

abbrev pub spell_body : ℕ → ℕ → Body → List ℕ
spell_body phases version (NewView round high) =
    if nat_lt round (2 ^ 16) then new_view_row round (spell_certificate phases high) else no_message
spell_body phases version (Prepare view what just) =
    if is_view view then prepare_row view (spell_content version what) (spell_certificate phases just) else no_message
spell_body phases version (PreCommit view shown) = spell_shown phases 3 view shown
spell_body phases version (Commit view shown) = spell_shown phases 4 view shown
spell_body phases version (Decide view shown) = spell_shown phases 5 view shown
spell_body phases version (Vote phase view d) =
    if fits_vote phases phase view d then vote_row phase view d else no_message

abbrev pub spell : ℕ → ℕ → Message → List ℕ
spell phases version msg =
    if is_signature msg.sig then spell_body phases version msg.body ++ msg.sig else no_message

-- ---- The encoding as a relation between messages and bytes

pub record IsSpelledNewView (phases round : ℕ) (high : Certificate) (bytes : List ℕ) : Type 0 where
  pub round_fits : round < 2 ^ 16
  pub certificate : List ℕ
  pub spelled : IsSpelledCertificate phases high certificate
  pub row : bytes ≡ new_view_row round certificate

pub record IsSpelledPrepare (phases version view : ℕ) (what : Content) (just : Certificate)
    (bytes : List ℕ) : Type 0 where
  pub view_fits : view < 2 ^ 32
  pub behind : List ℕ
  pub what_is : IsSpelledContent version what behind
  pub certificate : List ℕ
  pub spelled : IsSpelledCertificate phases just certificate
  pub row : bytes ≡ prepare_row view behind certificate

pub record IsSpelledShown (phases kind view : ℕ) (shown : Certificate) (bytes : List ℕ) : Type 0 where
  pub three : phases ≡ 3
  pub view_fits : view < 2 ^ 32
  pub certificate : List ℕ
  pub spelled : IsSpelledCertificate phases shown certificate
  pub row : bytes ≡ shown_row kind view certificate

pub record IsSpelledVote (phases phase view : ℕ) (d bytes : List ℕ) : Type 0 where
  pub phase_low : 1 ≤ phase
  pub phase_fits : phase ≤ phases
  pub view_fits : view < 2 ^ 32
  pub digest_fits : length d ≡ 32
  pub row : bytes ≡ vote_row phase view d

abbrev pub IsSpelledBody : ℕ → ℕ → Body → List ℕ → Type 0
IsSpelledBody phases version (NewView round high) bytes = IsSpelledNewView phases round high bytes
IsSpelledBody phases version (Prepare view what just) bytes = IsSpelledPrepare phases version view what just bytes
IsSpelledBody phases version (PreCommit view shown) bytes = IsSpelledShown phases 3 view shown bytes
IsSpelledBody phases version (Commit view shown) bytes = IsSpelledShown phases 4 view shown bytes
IsSpelledBody phases version (Decide view shown) bytes = IsSpelledShown phases 5 view shown bytes
IsSpelledBody phases version (Vote phase view d) bytes = IsSpelledVote phases phase view d bytes

-- rule: HotStuff: A message has one encoding for its number of phases and version
pub record IsSpelledMessage (phases version : ℕ) (msg : Message) (bytes : List ℕ) : Type 0 where
  pub front : List ℕ
  pub body : IsSpelledBody phases version msg.body front
  pub shape : is_signature msg.sig ≡ true
  pub row : bytes ≡ front ++ msg.sig

-- ---- Decoding

unfoldable pub parse_new_view : ℕ → Parser Body
parse_new_view phases = do
  round ← number w16
  high ← parse_certificate phases
  done (NewView round high)

unfoldable pub parse_prepare : ℕ → ℕ → Parser Body
parse_prepare phases version = do
  view ← number w32
  what ← parse_content version
  just ← parse_certificate phases
  done (Prepare view what just)

unfoldable pub parse_shown : ℕ → (ℕ → Certificate → Body) → Parser Body
parse_shown phases body = do
  view ← number w32
  shown ← parse_certificate phases
  done (body view shown)

unfoldable pub parse_vote : ℕ → Parser Body
parse_vote phases = do
  phase ← such_that (is_phase phases) byte
  view ← number w32
  d ← block 32
  done (Vote phase view d)

-- whether there is a message with this number
abbrev pub is_message : ℕ → ℕ → Bool
is_message phases n = ((n == 1) || (n == 2)) || ((n == 6) || (has_shows phases && (nat_le 3 n && nat_le n 5)))

-- the fields of the body with this number
abbrev pub fields_of : ℕ → ℕ → ℕ → Parser Body
fields_of phases version n =
    if n == 1 then parse_new_view phases else
    (if n == 2 then parse_prepare phases version else
    (if n == 3 then parse_shown phases PreCommit else
    (if n == 4 then parse_shown phases Commit else
    (if n == 5 then parse_shown phases Decide else parse_vote phases))))

-- the body's number, then its fields
unfoldable pub parse_body : ℕ → ℕ → Parser Body
parse_body phases version = do
  message ← such_that (is_message phases) byte
  fields_of phases version message

unfoldable pub parse : ℕ → ℕ → Parser Message
parse phases version = do
  body ← parse_body phases version
  sig ← parse_signature
  done (signed body sig)
