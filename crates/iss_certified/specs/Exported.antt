-- What a core exports after a run: the epochs of its log from 0, each with the certificate that the core keeps. It
-- stops at the first epoch whose certificate it does not keep or whose slots are not all in its log. A core that shows
-- no certificate exports no epoch.
use Rattle.std.specs.Prelude.{◌≡◌, ◌⊎◌, ℕ, ◌<◌, ◌≤◌, Bool, cond, List, [], ◌++◌, length, Option, Some, None}
use Rattle.iss_audit.specs.Exports.{AreBytes, EachEpoch, IsCertifiedText, IsRangedCert, log_of, slots_of, text_of}
use Rattle.iss_audit.specs.declared.exports.CertifiedEpoch.{CertifiedEpoch}
use Rattle.iss_audit.specs.declared.exports.Export.{Export}
use Rattle.iss_checkpoint.specs.declared.votes.Cert.{Cert}
use Rattle.iss_model.specs.Node.{Core}
use Rattle.iss_model.specs.Run.{Held}
use Rattle.iss_request.specs.declared.requests.Value.{Value}
use Rattle.iss_request.specs.declared.setups.Setup.{Setup}
use Rattle.iss_rules.specs.Votes.{cert_on}
use Rattle.iss_schedule.specs.Schedules.{most_bytes}
use Rattle.iss_sb.specs.Evidence.{Module}
use Rattle.iss_theorems.specs.Headline.{shown}

-- the epoch after these has a value for each of its slots, and the certificate that is kept for it
abbrev pub IsKept : Setup → (ℕ → Option Cert) → List CertifiedEpoch → CertifiedEpoch → Type 0
IsKept s kept before x =
    (length x.values ≡ slots_of s (length before) (log_of before)) × (kept (length before) ≡ Some x.cert)

-- The epochs that are exported of this log, oldest value first, and these certificates, by epoch: as many as there are.
pub record AreExported (s : Setup) (log : List Value) (kept : ℕ → Option Cert) (epochs : List CertifiedEpoch) : Type 0
  where
    pub each : EachEpoch (IsKept s kept) [] epochs
    pub rest : List Value
    pub all : log ≡ log_of epochs ++ rest
    pub last : (kept (length epochs) ≡ None) ⊎ (length rest < slots_of s (length epochs) (log_of epochs))

-- The certificates that a core shows, by epoch: those that it keeps, or none while it is silent.
abbrev pub certs_shown : {Msg : Type 0} → Core Msg → Bool → ℕ → Option Cert
certs_shown c silent e = cond silent None (cert_on c.certs e)

-- the bytes are the text that node i exports
pub record IsExportOf {Msg : Type 0} (s : Setup) (M : Module Msg) (h : Held Msg) (i : ℕ) (silent : Bool)
    (bytes : List ℕ) : Type 0 where
  pub epochs : List CertifiedEpoch
  pub exported : AreExported s (shown s M h i) (certs_shown (h.net.cores i) silent) epochs
  pub text : bytes ≡ text_of (record { setup = s; epochs = epochs })

-- the values and the certificate of an epoch are in the ranges of their types
abbrev pub IsRanged : Setup → List CertifiedEpoch → CertifiedEpoch → Type 0
IsRanged s before x = AreBytes s.version x.values × IsRangedCert x.cert

-- the text of these epochs is that of a certified log, if it is short enough to be audited
abbrev pub AreCertifiedIfShort : Setup → List CertifiedEpoch → Type 0
AreCertifiedIfShort s epochs =
    let x : Export = record { setup = s; epochs = epochs } in
    length (text_of x) ≤ most_bytes → IsCertifiedText (text_of x) x

-- the same of bytes
pub record IsCertifiedIfShort (bytes : List ℕ) : Type 0 where
  pub export : Export
  pub text : bytes ≡ text_of export
  pub certified : length bytes ≤ most_bytes → IsCertifiedText bytes export
