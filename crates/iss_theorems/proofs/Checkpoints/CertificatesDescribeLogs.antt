-- In every run a certificate describes the log of a correct signer, and what was adopted was delivered.
use Rattle.std.proofs.Common.{◌≡◌, ℕ, true, List, ◌∷◌, ◌++◌, length, Some, sym, ◌∙◌, refl, subst}
use Rattle.iss_base.specs.Lists.{Chain, Extends}
use Rattle.iss_checkpoint.specs.declared.votes.Cert.{Cert}
use Rattle.iss_base.proofs.Lists.{chain-part, some-injective}
use Rattle.iss_request.specs.declared.requests.Value.{Value}
use Rattle.iss_request.specs.declared.setups.Setup.{Setup}
use Rattle.iss_schedule.specs.declared.schedules.Event.{Event}
use Rattle.iss_sb.specs.Evidence.{Module, delivered, is_correct}
use Rattle.iss_sb.specs.Laws.{IsLawful, IsSafe}
use Rattle.iss_theorems.specs.Certified.{AreCertified, IsLogAt, IsOfLog, IsTrueCert, WasDelivered}
use Rattle.iss_composition.specs.Checkpoints.{scheme_of}
use Rattle.iss_composition.specs.Cluster.{IsBooked, signers}
use Rattle.iss_rules.specs.Concrete.{rules_of}
use Rattle.iss_rules.specs.Formats.{formats_of}
use Rattle.iss_theorems.specs.OneLog.{free_after}
use Rattle.iss_rules.specs.Past.{Past, adopted_at, cell, epoch_at, leader_at, log_of, params_at}
use Rattle.iss_rules.specs.Rules.{Rules}
use Rattle.iss_rules.specs.Setups.{IsSetupOf}
use Rattle.iss_rules.proofs.Faithful.{IsFaithful}
use Rattle.iss_model.specs.Run.{Held}
use Rattle.iss_model.specs.Runs.{AreAtCores, pasts_of}
use Rattle.iss_theorems.proofs.Checkpoints.KeptVotesAreValid.{in-signers, quorum-is, signs_of}
use Rattle.iss_composition.proofs.Checkpoints.{exact-of, quorums}
use Rattle.iss_theorems.proofs.Refinement.Invariant.{Fits, Premises, view}
use Rattle.iss_rules.proofs.Logs.{log-chain}
use Rattle.iss_theorems.proofs.Refinement.LogsArePrefixes.{premises}
use Rattle.iss_composition.proofs.Reached.{good-reach}
use Rattle.iss_theorems.proofs.Refinement.RunKeepsInvariant.{run-fits}

module _ {Msg : Type 0} (s : Setup) (M : Module Msg) (h : IsSetupOf M s) (faithful : IsFaithful s (formats_of s M) M) (law : IsLawful M) (safe : IsSafe M) where
  module _ (events : List Event) (low : AreAtCores s events) where
    abbrev R : Rules
    R = rules_of s

    abbrev held : Held Msg
    held = free_after s M events

    abbrev given : Premises s (formats_of s M) R M
    given = premises s M h faithful law safe

    fits : Fits s (formats_of s M) R M held
    fits = run-fits s (formats_of s M) R M given events low

    of-vote : (k e : ℕ) → is_correct s k ≡ true → (chain : List ℕ) (many : ℕ) → IsBooked held.signed k (R.voted e chain many) →
        IsLogAt R M k e (pasts_of held.net k) chain many
    of-vote k e ok chain many booked =
        fits.standing k ok e chain many (subst (λ (y : List ℕ). IsBooked held.signed k y) (given.voting.voted e chain many) booked)

    of-log : (c : Cert) → IsTrueCert s held c → IsOfLog s R M (pasts_of held.net) c
    of-log c k =
        let q = quorums s h.good (signers (signs_of c.signers)) (quorum-is s M R given.sound given.voting c k.valid) in
        let r = in-signers c.signers q.0 q.1 in
        let right : is_correct s r.0.by.0 ≡ true = subst (λ (n : ℕ). is_correct s n ≡ true) (sym r.2) q.2 in
        record {
          true_cert = k.valid;
          signer = r.0;
          among = r.1;
          correct = right;
          log = of-vote r.0.by.0 c.epoch.0 right c.chain c.requests (k.booked r.0 r.1 right);
        }

    was-delivered : (i : ℕ) → is_correct s i ≡ true → (e k : ℕ) (v : Value) → adopted_at (pasts_of held.net i).adopted e k ≡ Some v →
        WasDelivered s R M (pasts_of held.net) e k v
    was-delivered i ok e k v a =
        let w = view s (formats_of s M) R M held fits.messages in
        let good = good-reach s (scheme_of s) R M safe law given.sound w (exact-of s h.good w) fits.separate fits.reach in
        let t = (good.adopted i e k v ok a).1 in
        record { older = t.older; epoch = t.epoch; place = t.place; is = t.is }

    pub are-certified : AreCertified s M held
    are-certified = record {
      of_votes = of-vote;
      of_logs = of-log;
      kept = λ i ok c m.
          let k = (fits.certified i ok).certs c m in
          record { valid = k.certified; booked = λ x a. (k.signs x a).booked };
      delivered = was-delivered;
    }

-- a value delivered by a node's own instance takes precedence over an adopted one
pub delivered-first : {Msg : Type 0} (R : Rules) (M : Module Msg) (me : ℕ) (c : Past Msg) (older : List Value) (v u : Value) → Extends (v ∷ older) (log_of R M me c) →
    delivered M (params_at R older) me (c.evidence (epoch_at R older) (leader_at R older)) (length older) ≡ Some u → v ≡ u
delivered-first R M me c older v u longer is =
    let P : List Value → Value → Type 0 = λ o x. cell R M me c o ≡ Some x in
    let whole : Chain P (longer.0 ++ (v ∷ older)) = subst (λ (xs : List Value). Chain P xs) longer.1 (log-chain R M me c) in
    let at : cell R M me c older ≡ Some v = (chain-part P longer.0 v older whole).1 in
    let here : cell R M me c older ≡ Some u = rw is refl in
    some-injective v u (sym at ∙ here)
