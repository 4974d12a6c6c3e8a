-- Why a text is not a certified log: its first line that cannot stand in its place, or, if each line is well-formed,
-- its first epoch that is not certified.
use Rattle.std.specs.Prelude.{◌≡◌, ◌≢◌, ◌⊎◌, ℕ, ◌+◌, ◌<◌, ◌≤◌, true, false, List, [], ◌∷◌, ◌++◌, length, map}
use Rattle.std.specs.List.{AllByRecursion}
use Rattle.iss_log.specs.Chains.{end_of}
use Rattle.iss_request.specs.declared.requests.Value.{Value}
use Rattle.iss_request.specs.declared.setups.Setup.{Setup}
use Rattle.iss_checkpoint.specs.Votes.{Voters, is_cert, voters_of}
use Rattle.iss_checkpoint.specs.declared.votes.Cert.{Cert}
use Rattle.iss_schedule.specs.BadLines.{IsBadLine}
use Rattle.iss_schedule.specs.Schedules.{IsKnown, header_lines, most_bytes, most_events}
use Rattle.iss_schedule.specs.Words.{ended}
use Rattle.iss_schedule.specs.declared.errors.LineFault.{LineFault}
use Rattle.iss_schedule.specs.declared.errors.LineFault.TheVariants.{Form}
use Rattle.iss_schedule.specs.declared.errors.ReadError.{ReadError}
use Rattle.iss_schedule.specs.declared.errors.ReadError.TheVariants as read
use Rattle.iss_texts.specs.Bodies.{IsBadBehind, IsBadNext, last_line}
use Rattle.iss_audit.specs.Exports.{EachEpoch, IsCertOf, IsCertified, IsExport, IsValue, IsWhole, body_lines, cert_line, epoch_lines, keys_of, log_of, slots_of, stated_in, value_line}
use Rattle.iss_audit.specs.declared.errors.AuditError.{AuditError}
use Rattle.iss_audit.specs.declared.errors.AuditError.TheVariants.{BadLine, BadEpoch, NoMemory}
use Rattle.iss_audit.specs.declared.errors.EpochFault.{EpochFault}
use Rattle.iss_audit.specs.declared.errors.EpochFault.TheVariants.{BadCert, WrongChain}
use Rattle.iss_audit.specs.declared.exports.CertifiedEpoch.{CertifiedEpoch}
use Rattle.iss_audit.specs.declared.exports.Export.{Export}

-- a refusal of the header, as one of the text
abbrev pub as_read : ReadError → AuditError
as_read (read.BadLine line why) = BadLine line why
as_read read.NoMemory = NoMemory

-- ---- the first bad line

-- Lines that begin an export: those of whole epochs, and the first values of the next one.
pub record IsBegun (s : Setup) (before : List CertifiedEpoch) (values : List Value) : Type 0 where
  pub whole : EachEpoch (IsWhole s) [] before
  pub valid : AllByRecursion (IsValue s.version) values
  pub few : length values ≤ slots_of s (length before) (log_of before)

abbrev pub begun_lines : ℕ → List CertifiedEpoch → List Value → List (List ℕ)
begun_lines version before values = epoch_lines version before ++ map (value_line version) values

-- The line may stand after these: the last line after whole epochs, a value while the epoch has too few, and then its
-- certificate.
abbrev pub MayFollow : Setup → List CertifiedEpoch → List Value → List ℕ → Type 0
MayFollow s before values line =
    ((values ≡ []) × (line ≡ last_line))
    ⊎ ((length values < slots_of s (length before) (log_of before))
    × ((v : Value) × (IsValue s.version v × (line ≡ value_line s.version v))))
    ⊎ ((length values ≡ slots_of s (length before) (log_of before))
    × ((c : Cert) × (IsCertOf (length before) c × (line ≡ cert_line c))))

-- a line that may not stand after these has the wrong form, whatever it is
abbrev pub IsFault : Setup → List CertifiedEpoch → List Value → List ℕ → LineFault → Type 0
IsFault s before values line why = (why ≡ Form) × ¬ MayFollow s before values line

-- the first bad line after a header, where no last line stands before it
pub record IsBadInside (s : Setup) (body : List ℕ) (line : ℕ) (why : LineFault) : Type 0 where
  pub before : List CertifiedEpoch
  pub values : List Value
  pub rest : List ℕ
  pub text : body ≡ ended (begun_lines s.version before values) ++ rest
  pub begun : IsBegun s before values
  pub number : line ≡ 12 + length (begun_lines s.version before values)
  pub bad : IsBadNext (length (begun_lines s.version before values)) (IsFault s before values) rest why

-- the line after the last one
pub record IsBadAfter (s : Setup) (body : List ℕ) (line : ℕ) (why : LineFault) : Type 0 where
  pub epochs : List CertifiedEpoch
  pub rest : List ℕ
  pub text : body ≡ ended (body_lines s.version epochs) ++ rest
  pub whole : EachEpoch (IsWhole s) [] epochs
  pub few : length (body_lines s.version epochs) ≤ most_events
  pub number : line ≡ 12 + length (body_lines s.version epochs)
  pub bad : IsBadBehind rest why

abbrev pub IsBadBody : Setup → List ℕ → ℕ → LineFault → Type 0
IsBadBody s body line why = IsBadInside s body line why ⊎ IsBadAfter s body line why

-- a good header, and a bad line after it
pub record IsBadAfterHeader (bytes : List ℕ) (line : ℕ) (why : LineFault) : Type 0 where
  pub setup : Setup
  pub body : List ℕ
  pub known : IsKnown setup
  pub text : bytes ≡ ended (header_lines setup) ++ body
  pub short : length bytes ≤ most_bytes
  pub bad : IsBadBody setup body line why

-- The first bad line: as for a schedule in the header, or the first line after it that may not stand there.
-- rule: Audit: The first bad line is named before any bad epoch
abbrev pub IsBadText : List ℕ → ℕ → LineFault → Type 0
IsBadText bytes line why = ((line ≤ 11) × IsBadLine bytes line why) ⊎ IsBadAfterHeader bytes line why

-- ---- the first epoch that is not certified

-- what is wrong with the epoch after these; the certificate's signatures come first
-- rule: Audit: A bad epoch is the first one, and a bad certificate comes before a wrong chain
abbrev pub IsEpochFault : Setup → Voters → List CertifiedEpoch → CertifiedEpoch → EpochFault → Type 0
IsEpochFault s w before x BadCert = is_cert w x.cert ≡ false
IsEpochFault s w before x WrongChain = (is_cert w x.cert ≡ true)
    × (stated_in x.cert ≢ end_of s.version (log_of before ++ x.values))

pub record IsFirstUncertified (s : Setup) (w : Voters) (epochs : List CertifiedEpoch) (e : ℕ) (why : EpochFault)
    : Type 0 where
  pub before : List CertifiedEpoch
  pub epoch : CertifiedEpoch
  pub after : List CertifiedEpoch
  pub all : epochs ≡ before ++ epoch ∷ after
  pub number : e ≡ length before
  pub certified : EachEpoch (IsCertified s w) [] before
  pub fault : IsEpochFault s w before epoch why

-- the bytes are the text of an export, of which this epoch is the first that is not certified
pub record IsBadEpoch (bytes : List ℕ) (e : ℕ) (why : EpochFault) : Type 0 where
  pub content : Export
  pub export : IsExport bytes content
  pub first : IsFirstUncertified content.setup (voters_of content.setup (keys_of content.setup)) content.epochs e why

-- ---- the refusal of a text; running out of memory says nothing about it

abbrev pub IsRefused : List ℕ → AuditError → Type 0
IsRefused bytes (BadLine line why) = IsBadText bytes line why
IsRefused bytes (BadEpoch e why) = IsBadEpoch bytes e.0 why
IsRefused bytes NoMemory = Unit {0}

-- ---- for private functions alone

-- reading the lines after a header refuses them
abbrev pub IsBodyRefused : Setup → List ℕ → ReadError → Type 0
IsBodyRefused s body (read.BadLine line why) = IsBadBody s body line why
IsBodyRefused s body read.NoMemory = Unit {0}

-- checking the epoch after these refuses it
abbrev pub IsEpochRefused : Setup → Voters → List CertifiedEpoch → CertifiedEpoch → AuditError → Type 0
IsEpochRefused s w before x (BadLine line why) = ⊥
IsEpochRefused s w before x (BadEpoch e why) = (e.0 ≡ length before) × IsEpochFault s w before x why
IsEpochRefused s w before x NoMemory = Unit {0}

abbrev pub AreRefused : Setup → Voters → List CertifiedEpoch → AuditError → Type 0
AreRefused s w epochs (BadLine line why) = ⊥
AreRefused s w epochs (BadEpoch e why) = IsFirstUncertified s w epochs e.0 why
AreRefused s w epochs NoMemory = Unit {0}

-- reading the text refuses it
abbrev pub IsReadRefused : List ℕ → ReadError → Type 0
IsReadRefused bytes (read.BadLine line why) = IsBadText bytes line why
IsReadRefused bytes read.NoMemory = Unit {0}
