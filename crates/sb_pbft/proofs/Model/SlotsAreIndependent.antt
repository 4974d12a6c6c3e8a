-- Settling one slot does not change another: each slot is settled by its state before the step.
use Rattle.std.proofs.Common.{◌≡◌, ◌≢◌, ◌&&◌, ◌||◌, ◌∷◌, ◌++◌, ◌∙◌, ℕ, suc, Bool, not, cond, List, [], Option, Some, None, refl, sym, ap, subst, inl, inr, arith}
use Rattle.std.specs.Prelude.{is_some}
use Rattle.iss_base.specs.Lists.{In, first_of}
use Rattle.iss_base.proofs.Lists.{set_at-other, set_at-same}
use Rattle.iss_request.specs.Slots.{AreAscending}
use Rattle.iss_request.specs.declared.ids.Slot.{Slot}
use Rattle.iss_request.specs.declared.requests.Value.{Value}
use Rattle.iss_sb.specs.declared.effects.Params.{Params}
use Rattle.pbft_wire.specs.declared.messages.Certificate.{Certificate}
use Rattle.sb_pbft.specs.Makes.{Draft}
use Rattle.sb_pbft.specs.Internal.Turns.{Held, certificate_of, commits_to, committed_at, deliveries, delivery, drafts_all, drafts_at, is_of, newly_at, prepared_at, prepares_to, ready_at, settled, settled_all}
use Rattle.sb_pbft.specs.declared.proposals.Proposal.{Proposal}
use Rattle.sb_pbft.proofs.ViewChange.HighestCertificates.{NotAt, above}

module _ (p : Params) where
  -- ---- one slot

  top-here : (h : Held) (v : ℕ) (t : Slot) →
      (settled p h v t).top t.0 ≡ first_of (certificate_of p h t (ready_at p h t.0)) (h.top t.0)
  top-here h v t = set_at-same h.top t.0 (first_of (certificate_of p h t (ready_at p h t.0)) (h.top t.0))

  top-other : (h : Held) (v : ℕ) (t : Slot) (s : ℕ) → s ≢ t.0 → (settled p h v t).top s ≡ h.top s
  top-other h v t s off = set_at-other h.top t.0 (first_of (certificate_of p h t (ready_at p h t.0)) (h.top t.0)) s off

  done-here : (h : Held) (v : ℕ) (t : Slot) → (settled p h v t).done t.0 ≡ (h.done t.0 || is_some (newly_at p h v t.0))
  done-here h v t = set_at-same h.done t.0 (h.done t.0 || is_some (newly_at p h v t.0))

  done-other : (h : Held) (v : ℕ) (t : Slot) (s : ℕ) → s ≢ t.0 → (settled p h v t).done s ≡ h.done s
  done-other h v t s off = set_at-other h.done t.0 (h.done t.0 || is_some (newly_at p h v t.0)) s off

  ready-other : (h : Held) (v : ℕ) (t : Slot) (s : ℕ) → s ≢ t.0 → ready_at p (settled p h v t) s ≡ ready_at p h s
  ready-other h v t s off = ap (λ (o : Option Certificate). cond (h.mode.active && not (is_of h.mode.view o)) (prepared_at p h h.mode.view s) None) (top-other h v t s off)

  newly-other : (h : Held) (v : ℕ) (t : Slot) (s : ℕ) → s ≢ t.0 → newly_at p (settled p h v t) v s ≡ newly_at p h v s
  newly-other h v t s off = ap (λ (b : Bool). cond b None (committed_at p h v s)) (done-other h v t s off)

  certificate-same : (h : Held) (v : ℕ) (u t : Slot) (o : Option Proposal) →
      certificate_of p (settled p h v u) t o ≡ certificate_of p h t o
  certificate-same h v u t None = refl
  certificate-same h v u t (Some q) = refl

  -- ---- slots that ascend

  not-behind : (s : Slot) (ss : List Slot) → AreAscending (suc s.0) ss → NotAt s.0 ss
  not-behind s ss a t i e = let l = above (suc s.0) ss t a i in absurd (omega (arith, l, e))

  apart : (s : Slot) (ss : List Slot) (t : Slot) → AreAscending (suc s.0) ss → In t ss → t.0 ≢ s.0
  apart s ss t a i e = not-behind s ss a t i e

  pub top-outside : (h : Held) (v : ℕ) (ss : List Slot) (s : ℕ) → NotAt s ss → (settled_all p h v ss).top s ≡ h.top s
  top-outside h v [] s off = refl
  top-outside h v (t ∷ ts) s off = top-outside (settled p h v t) v ts s (λ u i e. off u (inr i) e) ∙ top-other h v t s (λ e. off t (inl refl) (sym e))

  pub done-outside : (h : Held) (v : ℕ) (ss : List Slot) (s : ℕ) → NotAt s ss → (settled_all p h v ss).done s ≡ h.done s
  done-outside h v [] s off = refl
  done-outside h v (t ∷ ts) s off = done-outside (settled p h v t) v ts s (λ u i e. off u (inr i) e) ∙ done-other h v t s (λ e. off t (inl refl) (sym e))

  pub top-inside : (h : Held) (v from : ℕ) (ss : List Slot) (t : Slot) → AreAscending from ss → In t ss →
      (settled_all p h v ss).top t.0 ≡ first_of (certificate_of p h t (ready_at p h t.0)) (h.top t.0)
  top-inside h v from [] t a i = absurd i
  top-inside h v from (u ∷ us) t a (inl e) =
      subst (λ (z : Slot). (settled_all p h v (u ∷ us)).top z.0 ≡ first_of (certificate_of p h z (ready_at p h z.0)) (h.top z.0)) (sym e)
      (top-outside (settled p h v u) v us u.0 (not-behind u us a.1) ∙ top-here h v u)
  top-inside h v from (u ∷ us) t a (inr i) =
      let off = apart u us t a.1 i in
      top-inside (settled p h v u) v (suc u.0) us t a.1 i ∙
      (ap (λ (o : Option Certificate). first_of (certificate_of p (settled p h v u) t (ready_at p (settled p h v u) t.0)) o) (top-other h v u t.0 off) ∙
      (ap (λ (o : Option Proposal). first_of (certificate_of p (settled p h v u) t o) (h.top t.0)) (ready-other h v u t.0 off) ∙
      ap (λ (o : Option Certificate). first_of o (h.top t.0)) (certificate-same h v u t (ready_at p h t.0))))

  pub done-inside : (h : Held) (v from : ℕ) (ss : List Slot) (t : Slot) → AreAscending from ss → In t ss →
      (settled_all p h v ss).done t.0 ≡ (h.done t.0 || is_some (newly_at p h v t.0))
  done-inside h v from [] t a i = absurd i
  done-inside h v from (u ∷ us) t a (inl e) =
      subst (λ (z : Slot). (settled_all p h v (u ∷ us)).done z.0 ≡ (h.done z.0 || is_some (newly_at p h v z.0))) (sym e)
      (done-outside (settled p h v u) v us u.0 (not-behind u us a.1) ∙ done-here h v u)
  done-inside h v from (u ∷ us) t a (inr i) =
      let off = apart u us t a.1 i in
      done-inside (settled p h v u) v (suc u.0) us t a.1 i ∙
      (ap (λ (b : Bool). b || is_some (newly_at p (settled p h v u) v t.0)) (done-other h v u t.0 off) ∙ ap (λ (o : Option Proposal). h.done t.0 || is_some o) (newly-other h v u t.0 off))

  -- ---- messages and deliveries, each by the state before the step

  abbrev pub drafts_each : Held → Bool → ℕ → List Slot → List Draft
  drafts_each h answers v [] = []
  drafts_each h answers v (s ∷ ss) = drafts_at p h answers v s ++ drafts_each h answers v ss

  drafts-same : (h : Held) (answers : Bool) (v : ℕ) (u : Slot) (ss : List Slot) → NotAt u.0 ss →
      drafts_each (settled p h v u) answers v ss ≡ drafts_each h answers v ss
  drafts-same h answers v u [] off = refl
  drafts-same h answers v u (t ∷ ts) off =
      ap (λ (o : Option Proposal). (cond answers (prepares_to v t (h.proposal v t.0)) [] ++ commits_to h.mode.view t o) ++ drafts_each (settled p h v u) answers v ts) (ready-other h v u t.0 (off t (inl refl))) ∙
      ap (λ (z : List Draft). drafts_at p h answers v t ++ z) (drafts-same h answers v u ts (λ w i e. off w (inr i) e))

  pub drafts-each : (h : Held) (answers : Bool) (v from : ℕ) (ss : List Slot) → AreAscending from ss →
      drafts_all p h answers v ss ≡ drafts_each h answers v ss
  drafts-each h answers v from [] a = refl
  drafts-each h answers v from (s ∷ ss) a =
      ap (λ (z : List Draft). drafts_at p h answers v s ++ z) (drafts-each (settled p h v s) answers v (suc s.0) ss a.1 ∙ drafts-same h answers v s ss (not-behind s ss a.1))

  abbrev pub deliveries_each : Held → ℕ → List Slot → List (Slot × Value)
  deliveries_each h v [] = []
  deliveries_each h v (s ∷ ss) = delivery s (newly_at p h v s.0) ++ deliveries_each h v ss

  deliveries-same : (h : Held) (v : ℕ) (u : Slot) (ss : List Slot) → NotAt u.0 ss →
      deliveries_each (settled p h v u) v ss ≡ deliveries_each h v ss
  deliveries-same h v u [] off = refl
  deliveries-same h v u (t ∷ ts) off =
      ap (λ (o : Option Proposal). delivery t o ++ deliveries_each (settled p h v u) v ts) (newly-other h v u t.0 (off t (inl refl))) ∙
      ap (λ (z : List (Slot × Value)). delivery t (newly_at p h v t.0) ++ z) (deliveries-same h v u ts (λ w i e. off w (inr i) e))

  pub deliveries-each : (h : Held) (v from : ℕ) (ss : List Slot) → AreAscending from ss →
      deliveries p h v ss ≡ deliveries_each h v ss
  deliveries-each h v from [] a = refl
  deliveries-each h v from (s ∷ ss) a =
      ap (λ (z : List (Slot × Value)). delivery s (newly_at p h v s.0) ++ z) (deliveries-each (settled p h v s) v (suc s.0) ss a.1 ∙ deliveries-same h v s ss (not-behind s ss a.1))
