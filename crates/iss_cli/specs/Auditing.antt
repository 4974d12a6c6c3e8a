-- What a core exports after a schedule's run, and the audit of such a text, as answers of the program.
use Rattle.std.specs.Prelude.{◌≡◌, ◌⊎◌, ℕ, ◌<◌, ◌≤◌, List, [], ◌∷◌, ◌++◌, codes, decimal}
use Rattle.iss_audit.specs.Exports.{EachEpoch, IsCertifiedText, IsSignedByQuorum, keys_of}
use Rattle.iss_audit.specs.declared.errors.EpochFault.{EpochFault}
use Rattle.iss_audit.specs.declared.errors.EpochFault.TheVariants.{BadCert, WrongChain}
use Rattle.iss_audit.specs.declared.exports.Export.{Export}
use Rattle.iss_certified.specs.OfRun.{AreEnough, AreTrusted, IsOfRun}
use Rattle.iss_export.specs.Certified.{certified_text}
use Rattle.iss_export.specs.Exporting.{IsExported}
use Rattle.iss_model.specs.Runs.{AreAtCores}
use Rattle.iss_schedule.specs.declared.schedules.Event.{Event}
use Rattle.iss_schedule.specs.declared.schedules.Schedule.{Schedule}
use Rattle.iss_sb.specs.Evidence.{Module}
use Rattle.iss_theorems.specs.Headline.{IsWhole, course_after, held_after}
use Rattle.iss_cli.specs.Running.{refused_configuration}
use Rattle.iss_cli.specs.Views.{Under, outcome_of}
use Rattle.iss_cli.specs.declared.answers.Answer.{Answer}
use Rattle.iss_cli.specs.declared.status.Outcome.TheVariants.{Done, Uncertified}

-- ---- an export

-- The answer is what a core exports after the schedule's run under this module, and the headline holds for that run.
pub record IsExportedUnder (core : ℕ) (s : Schedule) (a : Answer) (Msg : Type 0) (M : Module Msg) : Type 0 where
  pub printed : IsExported s.setup M s.events core a.printed
  pub outcome : a.outcome ≡ outcome_of (course_after s.setup M s.events).ended
  pub whole : IsWhole s.setup M s.events

-- The answer is what a core exports after the schedule's run under the module that it names, or there is no such node.
-- rule: Program: What is no configuration, or has no such node, exits with 11
abbrev pub IsOfCore : ℕ → Schedule → Answer → Type 0
IsOfCore core s a =
    ((s.setup.n ≤ core) × (a ≡ refused_configuration))
    ⊎ ((core < s.setup.n) × Under s.setup.module (IsExportedUnder core s a))

-- ---- an audit

abbrev pub certified_answer : Export → Answer
certified_answer x = record { printed = certified_text x.epochs; outcome = Done }

abbrev pub fault_word : EpochFault → List ℕ
fault_word BadCert = codes "BadCert"
fault_word WrongChain = codes "WrongChain"

-- rule: Program: An exported log that is not certified exits with 12
abbrev pub refused_epoch : ℕ → EpochFault → Answer
refused_epoch epoch why = record {
  printed = codes "refused epoch " ++ decimal epoch ++ codes " " ++ fault_word why ++ 10 ∷ [];
  outcome = Uncertified;
}

-- What an auditor may conclude who trusts more nodes than are outside a quorum. In each run with the export's header,
-- under this module, one of these nodes signed each epoch, and its log continues the exported one. Or the two logs show
-- two strings of one digest.
abbrev pub AreOfRunsUnder : Export → (Msg : Type 0) → Module Msg → Type 0
AreOfRunsUnder x Msg M = (events : List Event) → AreAtCores x.setup events →
    (trusted : List ℕ) → AreEnough x.setup trusted →
    AreTrusted x.setup (held_after x.setup M events) trusted x.epochs →
    EachEpoch (IsOfRun x.setup M (held_after x.setup M events) trusted) [] x.epochs

-- The same under the module that the header names.
abbrev pub AreOfRuns : Export → Type 0
AreOfRuns x = Under x.setup.module (AreOfRunsUnder x)

-- The answer shows the certified log of which the input is the text. Quorums signed each of its epochs.
pub record IsCertifiedAnswer (input : List ℕ) (a : Answer) : Type 0 where
  pub export : Export
  pub certified : IsCertifiedText input export
  pub answer : a ≡ certified_answer export
  pub quorums : EachEpoch (IsSignedByQuorum export.setup (keys_of export.setup)) [] export.epochs
  pub trusted : AreOfRuns export
