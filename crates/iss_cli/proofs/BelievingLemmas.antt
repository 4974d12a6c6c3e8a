-- The answers to a text of replies, and what is promised of the replies of a run.
use Rattle.std.proofs.Common.{◌≡◌, inl, inr, ℕ, List, Ok, Err}
use Rattle.std.specs.Prelude.{Result, IfOk}
use Rattle.iss_request.specs.declared.errors.NoMemory.{NoMemory}
use Rattle.iss_schedule.specs.Schedules.{IsFine}
use Rattle.iss_schedule.specs.declared.errors.LineFault.{LineFault}
use Rattle.iss_schedule.specs.declared.schedules.Schedule.{Schedule}
use Rattle.iss_rules.specs.Setups.{IsSetupOf}
use Rattle.iss_believed.specs.Believed.{AreOfOneLog}
use Rattle.sb_chained.specs.Chained.{chained}
use Rattle.sb_hotstuff.specs.HotStuff.{hotstuff}
use Rattle.sb_pbft.specs.Pbft.{pbft}
use Rattle.sb_raft.specs.Raft.{raft}
use Rattle.sb_relay.specs.Relay.{relay}
use Rattle.iss_answers.specs.Refusals.{IsBadText}
use Rattle.iss_answers.specs.Texts.{IsTold}
use Rattle.iss_answers.specs.declared.told.Told.{Told}
use Rattle.iss_cli.specs.Answers.{IsOfReplies, IsOfSchedule, refused_line}
use Rattle.iss_cli.specs.Believing.{AreReplied, IsBelieved}
use Rattle.iss_cli.specs.declared.answers.Answer.{Answer}
use Rattle.iss_cli.proofs.ViewLemmas.{setup_of_chained, setup_of_hotstuff, setup_of_pbft, setup_of_raft, setup_of_relay}

-- ---- a text of replies

pub of_told : (input : List ℕ) (t : Told) (r : Result Answer NoMemory) → IsTold input t → IfOk r (IsBelieved t) → IfOk r (IsOfReplies input)
of_told input t (Ok a) is h = inl (t, (is, h))
of_told input t (Err e) is h = tt

pub of_bad_text : (input : List ℕ) (line : ℕ) (why : LineFault) (r : Result Answer NoMemory) → IsBadText input line why → IfOk r (λ a. a ≡ refused_line line why) → IfOk r (IsOfReplies input)
of_bad_text input line why (Ok a) bad h = inr (line, (why, (bad, h)))
of_bad_text input line why (Err e) bad h = tt

-- ---- the replies of a run

pub and_replied : (P : Schedule → Answer → Type 0) (input : List ℕ) (r : Result Answer NoMemory) → ((s : Schedule) → IsFine s → AreReplied s) → IfOk r (IsOfSchedule P input) → IfOk r (IsOfSchedule (λ s a. P s a × AreReplied s) input)
and_replied P input (Ok a) all (inl (s, (is, p))) = inl (s, (is, (p, all s is.fine)))
and_replied P input (Ok a) all (inr bad) = inr bad
and_replied P input (Err e) all h = tt

-- each module that a schedule can name
pub all_replied : (s : Schedule) → IsFine s → (IsSetupOf relay s.setup → AreOfOneLog s.setup relay s.events) → (IsSetupOf raft s.setup → AreOfOneLog s.setup raft s.events)
    → (IsSetupOf pbft s.setup → AreOfOneLog s.setup pbft s.events) → (IsSetupOf hotstuff s.setup → AreOfOneLog s.setup hotstuff s.events) → (IsSetupOf chained s.setup → AreOfOneLog s.setup chained s.events) → AreReplied s
all_replied s fine a b c d e = elim fine.setup.known [
  | inl is ↦ inl (is, a (setup_of_relay s.setup fine.setup is))
  | inr others ↦ elim others [
    | inl is ↦ inr (inl (is, b (setup_of_raft s.setup fine.setup is)))
    | inr more ↦ elim more [
      | inl is ↦ inr (inr (inl (is, c (setup_of_pbft s.setup fine.setup is))))
      | inr two ↦ elim two [
        | inl is ↦ inr (inr (inr (inl (is, d (setup_of_hotstuff s.setup fine.setup is)))))
        | inr is ↦ inr (inr (inr (inr (is, e (setup_of_chained s.setup fine.setup is)))))
      ]
    ]
  ]
]
