-- The theorems of a run, put together.
use Rattle.std.proofs.Common.{◌≡◌, ℕ, ◌*◌, Bool, true, List, [], length, refl, subst, arith}
use Rattle.iss_audit.specs.Exports.{EachEpoch, IsCertified, IsCertifiedText, IsWhole as IsWholeEpoch, keys_of, log_of}
use Rattle.iss_audit.specs.declared.exports.CertifiedEpoch.{CertifiedEpoch}
use Rattle.iss_audit.specs.declared.exports.Export.{Export}
use Rattle.iss_checkpoint.specs.Votes.{voters_of}
use Rattle.iss_composition.specs.Checkpoints.{scheme_of}
use Rattle.iss_composition.specs.Cluster.{AllSpelled}
use Rattle.iss_composition.proofs.Reached.{good-reach}
use Rattle.iss_request.specs.declared.setups.Setup.{Setup}
use Rattle.iss_rules.specs.Concrete.{rules_of}
use Rattle.iss_rules.specs.Past.{Past, log_of as past_log}
use Rattle.iss_schedule.specs.Schedules.{IsKnown}
use Rattle.iss_schedule.specs.declared.schedules.Event.{Event}
use Rattle.iss_sb.specs.Evidence.{Module, is_correct}
use Rattle.iss_sb.specs.Laws.{IsLawful, IsSafe}
use Rattle.iss_theorems.specs.Headline.{IsWhole, held_after, shown}
use Rattle.iss_theorems.proofs.Checkpoints.KeptVotesAreValid.{cert-there}
use Rattle.iss_certified.specs.Exported.{AreCertifiedIfShort, AreExported, IsRanged, certs_shown}
use Rattle.iss_certified.specs.OfRun.{AreEnough, AreTrusted, IsOfRun}
use Rattle.iss_certified.proofs.CertifiedLemmas.{all-certified, in-turned, shown-kept}
use Rattle.iss_certified.proofs.PrefixLemmas.{AreRead, each-of-run, spelled-read}
use Rattle.iss_certified.proofs.ShortLemmas.{few-lines}

module _ {Msg : Type 0} (s : Setup) (M : Module Msg) (safe : IsSafe M) (law : IsLawful M) (events : List Event) where
  -- each value in the log of a correct node has an encoding
  pub all-spelled : IsWhole s M events → (i : ℕ) → is_correct s i ≡ true → AllSpelled (scheme_of s) (past_log (rules_of s) M i ((held_after s M events).net.cores i).past)
  all-spelled whole i ok =
      let k = whole.of_cluster in
      let good = good-reach s (scheme_of s) (rules_of s) M safe law k.sound k.cluster k.exact k.separate k.reached in
      subst (λ (pasts : ℕ → Past Msg). AllSpelled (scheme_of s) (past_log (rules_of s) M i (pasts i))) k.pasts (good.spelled i ok)

  pub certified-export : IsKnown s → IsWhole s M events → (i : ℕ) (silent : Bool) → is_correct s i ≡ true → (epochs : List CertifiedEpoch) →
      AreExported s (shown s M (held_after s M events) i) (certs_shown ((held_after s M events).net.cores i) silent) epochs → EachEpoch (IsRanged s) [] epochs → AreCertifiedIfShort s epochs
  certified-export known whole i silent ok epochs exported ranged = λ short.
      let k = (held_after s M events).net.cores i in
      let none : length (log_of []) ≡ length {A = CertifiedEpoch} [] * s.epoch = omega arith in
      let all = all-certified s M (held_after s M events) known.good whole.one_log whole.certified i ok (all-spelled whole i ok) (certs_shown k silent)
      (λ e c found. cert-there s (rules_of s) k.certs e c (shown-kept k silent e c found)) [] epochs exported.rest exported.all none exported.each ranged in
      record { export = record { text = refl; setup = known; epochs = all.0; few = few-lines s known.good epochs all.0 all.1 short; short = short }; certified = all.1 }

  -- all values in the log of a correct node are read as they are written
  all-read : IsWhole s M events → (k : ℕ) → is_correct s k ≡ true → AreRead s (shown s M (held_after s M events) k)
  all-read whole k ok v i =
      spelled-read s v (all-spelled whole k ok v (in-turned v (past_log (rules_of s) M k ((held_after s M events).net.cores k).past) i))

  pub certified-log : IsWhole s M events → (bytes : List ℕ) (x : Export) → IsCertifiedText bytes x → x.setup ≡ s → (trusted : List ℕ) → AreEnough s trusted → AreTrusted s (held_after s M events) trusted x.epochs →
      EachEpoch (IsOfRun s M (held_after s M events) trusted) [] x.epochs
  certified-log whole bytes x text same trusted enough are =
      let known : IsKnown s = subst IsKnown same text.export.setup in
      let fine = subst (λ (t : Setup). EachEpoch (IsWholeEpoch t) [] x.epochs) same text.export.epochs in
      let certified = subst (λ (t : Setup). EachEpoch (IsCertified t (voters_of t (keys_of t))) [] x.epochs) same text.certified in
      let none : length (log_of []) ≡ length {A = CertifiedEpoch} [] * s.epoch = omega arith in
      each-of-run s M (held_after s M events) known.good whole.one_log whole.certified trusted enough x.epochs are (all-read whole) [] x.epochs (λ y i. i) (λ v i. absurd i) none fine certified
