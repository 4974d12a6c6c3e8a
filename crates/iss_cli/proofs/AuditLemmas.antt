-- The answers to an exported log, and what a core exports under the module that a schedule names.
use Rattle.std.proofs.Common.{◌≡◌, inl, inr, ℕ, List, [], Ok, Err}
use Rattle.std.specs.Prelude.{Result, IfOk}
use Rattle.iss_audit.specs.Exports.{EachEpoch, IsCertifiedText, IsSignedByQuorum, keys_of}
use Rattle.iss_audit.specs.Refusals.{IsBadEpoch, IsBadText}
use Rattle.iss_audit.specs.declared.errors.EpochFault.{EpochFault}
use Rattle.iss_audit.specs.declared.exports.Export.{Export}
use Rattle.iss_cli.specs.Answers.{IsAudited, refused_line}
use Rattle.iss_cli.specs.Auditing.{AreOfRuns, certified_answer, refused_epoch}
use Rattle.iss_cli.specs.Views.{Under}
use Rattle.iss_cli.specs.declared.answers.Answer.{Answer}
use Rattle.iss_cli.proofs.ViewLemmas.{setup_of_chained, setup_of_hotstuff, setup_of_pbft, setup_of_raft, setup_of_relay}
use Rattle.iss_request.specs.declared.errors.NoMemory.{NoMemory}
use Rattle.iss_request.specs.declared.setups.Setup.{Setup}
use Rattle.iss_rules.specs.Setups.{IsSetupOf}
use Rattle.iss_schedule.specs.Schedules.{IsKnown}
use Rattle.iss_schedule.specs.declared.errors.LineFault.{LineFault}
use Rattle.iss_sb.specs.Evidence.{Module}
use Rattle.sb_chained.specs.Chained.{chained}
use Rattle.sb_hotstuff.specs.HotStuff.{hotstuff}
use Rattle.sb_pbft.specs.Pbft.{pbft}
use Rattle.sb_raft.specs.Raft.{raft}
use Rattle.sb_relay.specs.Relay.{relay}

-- ---- each module that a schedule can name

pub under_known : (s : Setup) (Holds : (Msg : Type 0) → Module Msg → Type 0) → IsKnown s → (IsSetupOf relay s → Holds _ relay) → (IsSetupOf raft s → Holds _ raft)
    → (IsSetupOf pbft s → Holds _ pbft) → (IsSetupOf hotstuff s → Holds _ hotstuff) → (IsSetupOf chained s → Holds _ chained) → Under s.module Holds
under_known s Holds known a b c d e = elim known.known [
  | inl is ↦ inl (is, a (setup_of_relay s known is))
  | inr others ↦ elim others [
    | inl is ↦ inr (inl (is, b (setup_of_raft s known is)))
    | inr more ↦ elim more [
      | inl is ↦ inr (inr (inl (is, c (setup_of_pbft s known is))))
      | inr two ↦ elim two [
        | inl is ↦ inr (inr (inr (inl (is, d (setup_of_hotstuff s known is)))))
        | inr is ↦ inr (inr (inr (inr (is, e (setup_of_chained s known is)))))
      ]
    ]
  ]
]

-- ---- an audit

pub of_certified : (input : List ℕ) (x : Export) (r : Result Answer NoMemory) → IsCertifiedText input x → EachEpoch (IsSignedByQuorum x.setup (keys_of x.setup)) [] x.epochs → AreOfRuns x →
    IfOk r (λ a. a ≡ certified_answer x) → IfOk r (IsAudited input)
of_certified input x (Ok a) is quorums trusted h = inl (record { export = x; certified = is; answer = h; quorums = quorums; trusted = trusted })
of_certified input x (Err e) is quorums trusted h = tt

pub of_bad_export : (input : List ℕ) (line : ℕ) (why : LineFault) (r : Result Answer NoMemory) → IsBadText input line why → IfOk r (λ a. a ≡ refused_line line why) → IfOk r (IsAudited input)
of_bad_export input line why (Ok a) bad h = inr (inl (line, (why, (bad, h))))
of_bad_export input line why (Err e) bad h = tt

pub of_bad_epoch : (input : List ℕ) (epoch : ℕ) (why : EpochFault) (r : Result Answer NoMemory) → IsBadEpoch input epoch why → IfOk r (λ a. a ≡ refused_epoch epoch why) → IfOk r (IsAudited input)
of_bad_epoch input epoch why (Ok a) bad h = inr (inr (epoch, (why, (bad, h))))
of_bad_epoch input epoch why (Err e) bad h = tt
