-- What a core exports after the run of a schedule, as a text, and which cores are silent: they export no epoch.
use Rattle.std.specs.Prelude.{◌≡◌, ℕ, ◌||◌, Bool, true, List, [], ◌++◌, Option}
use Rattle.iss_audit.specs.Exports.{EachEpoch, epoch_lines}
use Rattle.iss_audit.specs.declared.exports.CertifiedEpoch.{CertifiedEpoch}
use Rattle.iss_certified.specs.Exported.{AreExported, IsCertifiedIfShort, IsExportOf, IsRanged, certs_shown}
use Rattle.iss_checkpoint.specs.declared.votes.Cert.{Cert}
use Rattle.iss_model.specs.Courses.{Machines}
use Rattle.iss_request.specs.declared.requests.Value.{Value}
use Rattle.iss_request.specs.declared.setups.Setup.{Setup}
use Rattle.iss_schedule.specs.Words.{ended}
use Rattle.iss_schedule.specs.declared.schedules.Event.{Event}
use Rattle.iss_sb.specs.Evidence.{Module, is_correct}
use Rattle.iss_theorems.specs.Headline.{course_after, held_after, shown}
use Rattle.iss_theorems.specs.Readers.{is_reader, reader_after}

-- ---- silent cores

-- Whether core i is silent in these machines, where this core read the evidence that ended the run: its disk has
-- failed, or it is that core.
-- rule: Audit: A core exports nothing after its disk failed, or if evidence was found in what it took
abbrev pub is_silent_in : {Msg : Type 0} → Machines Msg → Option ℕ → ℕ → Bool
is_silent_in w reader i = (w.disks i).failed || is_reader reader i

-- so after the run of these events
abbrev pub is_silent : {Msg : Type 0} → Setup → Module Msg → List Event → ℕ → Bool
is_silent s M events i = is_silent_in (course_after s M events).state (reader_after s M events) i

-- ---- the text

-- The bytes are the text that node i exports after the run of these events. If it is correct, they are the text of a
-- certified log, if they are short enough to be audited.
-- rule: Audit: A core exports its epochs up to the first without a certificate or with an empty slot
pub record IsExported {Msg : Type 0} (s : Setup) (M : Module Msg) (events : List Event) (i : ℕ) (bytes : List ℕ)
    : Type 0 where
  pub text : IsExportOf s M (held_after s M events) i (is_silent s M events i) bytes
  pub certified : is_correct s i ≡ true → IsCertifiedIfShort bytes

-- ---- for private functions alone

-- the lines of exported epochs were written behind a text
pub record HasPut (s : Setup) (kept : ℕ → Option Cert) (log : List Value) (old now : List ℕ) : Type 0 where
  pub epochs : List CertifiedEpoch
  pub exported : AreExported s log kept epochs
  pub ranged : EachEpoch (IsRanged s) [] epochs
  pub text : now ≡ old ++ ended (epoch_lines s.version epochs)

-- the lines of all epochs that core i exports of these machines were written behind a text
abbrev pub HasExported : {Msg : Type 0} → Setup → Module Msg → Machines Msg → Option ℕ → ℕ → (old now : List ℕ) →
    Type 0
HasExported s M w reader i old now =
    HasPut s (certs_shown (w.held.net.cores i) (is_silent_in w reader i)) (shown s M w.held i) old now

-- the bytes are what core i exports of these machines
pub record IsWritten {Msg : Type 0} (s : Setup) (M : Module Msg) (w : Machines Msg) (reader : Option ℕ) (i : ℕ)
    (bytes : List ℕ) : Type 0 where
  pub text : IsExportOf s M w.held i (is_silent_in w reader i) bytes
  pub ranged : EachEpoch (IsRanged s) [] text.epochs
