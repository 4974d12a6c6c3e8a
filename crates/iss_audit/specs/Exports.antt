-- The text of an exported log: the header, and for each epoch from 0 its values, one a line, and the certificate of the
-- log at its end; then a last line. A log is certified if each certificate is a quorum's, and states the chain and the
-- number of requests of all values so far.
use Rattle.std.specs.Prelude.{◌≡◌, ℕ, ◌≤◌, ◌<◌, ◌^◌, true, List, [], ◌∷◌, ◌++◌, length, map, codes}
use Rattle.std.specs.List.{AllByRecursion}
use Rattle.hex.specs.Hex.{IsBytes}
use Rattle.iss_base.specs.Lists.{In}
use Rattle.iss_keys.specs.Directories.{DirectoryView, VerifiesBy, directory_of}
use Rattle.iss_log.specs.Chains.{end_of}
use Rattle.iss_log.specs.declared.chains.End.{End}
use Rattle.iss_request.specs.Fields.{Good}
use Rattle.iss_request.specs.Formats.{parse_value, spell_value}
use Rattle.iss_request.specs.declared.requests.Value.{Value}
use Rattle.iss_request.specs.declared.setups.Setup.{Setup}
use Rattle.iss_sb.specs.Evidence.{is_correct}
use Rattle.iss_sb.specs.declared.signers.Signed.{Signed}
use Rattle.iss_checkpoint.specs.Certificates.{parse_cert, spell_cert}
use Rattle.iss_checkpoint.specs.Votes.{HaveSigned, Voters, is_cert, vote_statement, voters_of}
use Rattle.iss_checkpoint.specs.declared.votes.Cert.{Cert}
use Rattle.iss_schedule.specs.Schedules.{IsKnown, header_lines, most_bytes, most_events}
use Rattle.iss_schedule.specs.Words.{ended, word_of}
pub use Rattle.iss_texts.specs.Bodies.{last_line}
use Rattle.iss_audit.specs.declared.exports.CertifiedEpoch.{CertifiedEpoch}
use Rattle.iss_audit.specs.declared.exports.Export.{Export}

-- ---- epochs

-- the log that these epochs make
abbrev pub log_of : List CertifiedEpoch → List Value
log_of [] = []
log_of (x ∷ xs) = x.values ++ log_of xs

-- The number of slots of an epoch, by its number and the log before it. Everything else here only uses this number, so
-- epochs of other lengths are a change of this definition alone.
-- rule: Audit: An epoch has the number of values that its place in the log requires
abbrev pub slots_of : Setup → ℕ → List Value → ℕ
slots_of s e log = s.epoch

-- each epoch has the property, given the epochs before it; `before` are those before the first one
abbrev pub EachEpoch : (List CertifiedEpoch → CertifiedEpoch → Type 0) → List CertifiedEpoch → List CertifiedEpoch →
    Type 0
EachEpoch P before [] = Unit {0}
EachEpoch P before (x ∷ xs) = P before x × EachEpoch P (before ++ x ∷ []) xs

-- ---- lines

-- a name, and bytes in hexadecimal
abbrev pub hex_line : List ℕ → List ℕ → List ℕ
hex_line name bytes = name ++ 32 ∷ word_of bytes

abbrev pub value_line : ℕ → Value → List ℕ
value_line version v = hex_line (codes "value") (spell_value version v)

abbrev pub cert_line : Cert → List ℕ
cert_line c = hex_line (codes "cert") (spell_cert c)

-- the value has an encoding in this version
abbrev pub IsValue : ℕ → Value → Type 0
IsValue version v = IsBytes (spell_value version v) × (parse_value version (spell_value version v) ≡ Good v [])

-- the certificate is of epoch e, and has an encoding
abbrev pub IsCertOf : ℕ → Cert → Type 0
IsCertOf e c = IsBytes (spell_cert c) × (parse_cert e (spell_cert c) ≡ Good c [])

-- the lines of an epoch: a value a line, and after the last value the certificate
abbrev pub lines_of : ℕ → List Value → Cert → List (List ℕ)
lines_of version values cert = map (value_line version) values ++ cert_line cert ∷ []

-- the lines of epochs
-- rule: Audit: An export is a header, each epoch's values and certificate, and a last line
abbrev pub epoch_lines : ℕ → List CertifiedEpoch → List (List ℕ)
epoch_lines version [] = []
epoch_lines version (x ∷ xs) = map (value_line version) x.values ++ cert_line x.cert ∷ epoch_lines version xs

-- all lines after the header
abbrev pub body_lines : ℕ → List CertifiedEpoch → List (List ℕ)
body_lines version xs = epoch_lines version xs ++ last_line ∷ []

abbrev pub text_of : Export → List ℕ
text_of x = ended (header_lines x.setup) ++ ended (body_lines x.setup.version x.epochs)

-- ---- ranges of what a program holds

-- the values are written in bytes
abbrev pub AreBytes : ℕ → List Value → Type 0
AreBytes version = AllByRecursion (λ v. IsBytes (spell_value version v))

-- the certificate is written in bytes, and its number of requests fits eight of them
abbrev pub IsRangedCert : Cert → Type 0
IsRangedCert c = IsBytes (spell_cert c) × (c.requests < 2 ^ 64)

-- ---- well-formed exports

-- the epoch after these has one value for each slot, and a certificate of its own number
pub record IsWhole (s : Setup) (before : List CertifiedEpoch) (x : CertifiedEpoch) : Type 0 where
  pub slots : length x.values ≡ slots_of s (length before) (log_of before)
  pub values : AllByRecursion (IsValue s.version) x.values
  pub cert : IsCertOf (length before) x.cert

-- the bytes are the text of the export, within the limits of schedules
pub record IsExport (bytes : List ℕ) (x : Export) : Type 0 where
  pub text : bytes ≡ text_of x
  pub setup : IsKnown x.setup
  pub epochs : EachEpoch (IsWhole x.setup) [] x.epochs
  pub few : length (body_lines x.setup.version x.epochs) ≤ most_events
  pub short : length bytes ≤ most_bytes

-- ---- certified logs

-- what a certificate states of the log
abbrev pub stated_in : Cert → End
stated_in c = record { chain = c.chain; requests = c.requests }

-- The epoch after these is certified: exactly a quorum of different voters validly signed its number, the chain digest
-- of the log with its values, and the number of requests in that log.
-- rule: Audit: A log is certified if each epoch's certificate is valid and states the chain and count so far
pub record IsCertified (s : Setup) (w : Voters) (before : List CertifiedEpoch) (x : CertifiedEpoch) : Type 0 where
  pub epoch : x.cert.epoch.0 ≡ length before
  pub valid : is_cert w x.cert ≡ true
  pub stated : stated_in x.cert ≡ end_of s.version (log_of before ++ x.values)

-- the public keys of the header
abbrev pub keys_of : Setup → DirectoryView
keys_of s = directory_of s.n s.clients s.keys

-- the bytes are the text of a log that is certified under the header's keys
pub record IsCertifiedText (bytes : List ℕ) (x : Export) : Type 0 where
  pub export : IsExport bytes x
  pub certified : EachEpoch (IsCertified x.setup (voters_of x.setup (keys_of x.setup))) [] x.epochs

-- what a vote signs at the end of the epoch after these
abbrev pub statement_after : Setup → List CertifiedEpoch → CertifiedEpoch → List ℕ
statement_after s before x =
    let end = end_of s.version (log_of before ++ x.values) in
    vote_statement s.tag (length before) end.chain end.requests

-- Exactly a quorum of different nodes validly signed, for the epoch after these, the chain digest and the number of
-- requests of the log with its values. One of them is correct.
pub record IsSignedByQuorum (s : Setup) (d : DirectoryView) (before : List CertifiedEpoch) (x : CertifiedEpoch)
    : Type 0 where
  pub quorum : length x.cert.signers ≡ s.quorum
  pub signed : HaveSigned (voters_of s d) (statement_after s before x) 0 x.cert.signers
  pub signer : Signed
  pub among : In signer x.cert.signers
  pub correct : is_correct s signer.by.0 ≡ true
  pub said : VerifiesBy d.nodes signer.by.0 (statement_after s before x) signer.sig
