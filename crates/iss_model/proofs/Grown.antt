-- What a core takes extends its log, or leaves it unchanged.
use Rattle.std.proofs.Common.{◌≡◌, inl, inr, ℕ, true, Option, Some, None, refl, ap, subst}
use Rattle.iss_base.specs.Lists.{Extends}
use Rattle.iss_base.proofs.Lists.{extends-refl, extends-trans, same_or_not, set_at-other, set_at-same}
use Rattle.iss_request.specs.declared.setups.Setup.{Setup}
use Rattle.iss_sb.specs.declared.effects.Claim.{Claim}
use Rattle.iss_sb.specs.Evidence.{Module, is_correct}
use Rattle.iss_rules.specs.declared.events.NodeEvent.{NodeEvent}
use Rattle.iss_rules.specs.Parcels.{Formats}
use Rattle.iss_model.specs.Node.{Core, Dropped, Stepped, Taken, Turn, step}
use Rattle.iss_rules.specs.Past.{log_of}
use Rattle.iss_rules.specs.Rules.{Rules}
use Rattle.iss_rules.specs.Ends.{End}
use Rattle.iss_model.specs.Run.{Held, Net, after_step, at_core, by_collision, by_forged, collision_in, first_forged, node_of, turned_to}
use Rattle.iss_model.specs.Runs.{pasts_of}
use Rattle.iss_rules.proofs.Windows.{AreWindows}
use Rattle.iss_model.proofs.Ready.{IsReadyCore}
use Rattle.iss_model.proofs.Casts.{step-grown}
use Rattle.iss_rules.proofs.Ending.{HasSlots}
use Rattle.iss_model.proofs.Twins.{correct-is}

-- what steps of a net do to the logs of correct nodes
pub record Grows {Msg : Type 0} (s : Setup) (R : Rules) (M : Module Msg) (w v : Net Msg) : Type 0 where
  pub logs : (j : ℕ) → is_correct s j ≡ true → Extends (log_of R M j (pasts_of w j)) (log_of R M j (pasts_of v j))

pub grows-same : {Msg : Type 0} (s : Setup) (R : Rules) (M : Module Msg) (w v : Net Msg) → ((j : ℕ) → pasts_of v j ≡ pasts_of w j) → Grows s R M w v
grows-same s R M w v q = record { logs = λ j ok. rw (q j) (extends-refl (log_of R M j (pasts_of w j))) }

pub grows-trans : {Msg : Type 0} (s : Setup) (R : Rules) (M : Module Msg) (u v w : Net Msg) → Grows s R M u v → Grows s R M v w → Grows s R M u w
grows-trans s R M u v w a b = record { logs = λ j ok. extends-trans _ _ _ (a.logs j ok) (b.logs j ok) }

pub same-net : {Msg : Type 0} (s : Setup) (R : Rules) (M : Module Msg) (w v : Held Msg) → v.net.cores ≡ w.net.cores → Grows s R M w.net v.net
same-net s R M w v q = grows-same s R M w.net v.net (λ j. ap (λ (f : ℕ → Core _). (f j).past) q)

module _ {Msg : Type 0} (s : Setup) (F : Formats Msg) (R : Rules) (M : Module Msg) (slots : HasSlots R) (windows : AreWindows R)
    (h : Held Msg) (ready : (j : ℕ) → IsReadyCore R M (node_of s j) (h.net.cores j)) (i : ℕ) (event : NodeEvent) where
  grown : (t : Turn Msg) → step F R M (node_of s i) (h.net.cores i) event ≡ Taken t → Grows s R M h.net (turned_to s h i t).net
  grown t q = record {
    logs = λ j good. elim (same_or_not j i) [
      | inl z ↦
          let good2 : is_correct s i ≡ true = subst (λ (n : ℕ). is_correct s n ≡ true) z good in
          let here : pasts_of (turned_to s h i t).net i ≡ t.core.past = ap (λ (d : Core Msg). d.past) (set_at-same h.net.cores i t.core) in
          let longer = subst (λ (n : ℕ). Extends (log_of R M n (h.net.cores i).past) (log_of R M n t.core.past)) (correct-is s i good2)
          (step-grown F R M (node_of s i) slots windows (h.net.cores i) event t (ready i).sound q) in
          rw (z, here) longer
      | inr ne ↦
          let there : pasts_of (turned_to s h i t).net j ≡ pasts_of h.net j = ap (λ (d : Core Msg). d.past) (set_at-other h.net.cores i t.core j ne) in
          rw there (extends-refl (log_of R M j (pasts_of h.net j)))
    ];
  }

  collided : (o : Option End) (t : Turn Msg) → step F R M (node_of s i) (h.net.cores i) event ≡ Taken t →
      Grows s R M h.net (by_collision o h (turned_to s h i t)).state.net
  collided (Some end) t q = same-net s R M h h refl
  collided None t q = grown t q

  after : (o : Stepped Msg) → step F R M (node_of s i) (h.net.cores i) event ≡ o → Grows s R M h.net (after_step s h i o).state.net
  after (Dropped why) q = same-net s R M h h refl
  after (Taken t) q = collided (collision_in t.strings h.hashed) t q

  forged : (f : Option Claim) (o : Stepped Msg) → step F R M (node_of s i) (h.net.cores i) event ≡ o →
      Grows s R M h.net (by_forged f h (after_step s h i o)).state.net
  forged (Some claim) o q = same-net s R M h h refl
  forged None o q = after o q

  pub at-grows : Grows s R M h.net (at_core s F R M h i event).state.net
  at-grows = forged (first_forged s R h.signed _) (step F R M (node_of s i) (h.net.cores i) event) refl
