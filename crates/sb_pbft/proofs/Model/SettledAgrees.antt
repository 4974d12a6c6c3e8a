-- A step that touches some slots in one view: the state with the input, settled at these slots, is the state of the
-- new history.
use Rattle.std.proofs.Common.{◌≡◌, ◌≢◌, ◌⊎◌, ◌||◌, ◌∷◌, ◌∙◌, ℕ, cond, List, [], Option, Some, None, refl, sym, ap, subst, inl, inr, arith}
use Rattle.std.specs.Prelude.{is_some}
use Rattle.iss_base.specs.Lists.{In, first_of}
use Rattle.iss_base.proofs.Lists.{same_or_not}
use Rattle.iss_request.specs.Slots.{AreAscending}
use Rattle.iss_request.specs.declared.ids.Slot.{Slot}
use Rattle.iss_request.specs.declared.requests.Value.{Value}
use Rattle.iss_sb.specs.Evidence.{Item, delivered}
use Rattle.iss_sb.specs.declared.effects.Params.{Params}
use Rattle.pbft_wire.specs.declared.messages.Certificate.{Certificate}
use Rattle.pbft_wire.specs.declared.messages.Message.{Message}
use Rattle.pbft_views.specs.Choice.{best}
use Rattle.sb_pbft.specs.Makes.{inputs, kept, proposal_sig, ready}
use Rattle.sb_pbft.specs.Pbft.{pbft}
use Rattle.sb_pbft.specs.Rules.{committed, mode}
use Rattle.sb_pbft.specs.Internal.Turns.{Held, certificate_of, committed_at, model, placed, ready_at, settled, settled_all}
use Rattle.sb_pbft.specs.declared.proposals.Proposal.{Proposal}
use Rattle.sb_pbft.proofs.Model.CertificatesAgree.{committed-model, ready-model}
use Rattle.sb_pbft.proofs.Model.DeliveredInOneView.{newly-delivered, nothing-delivered}
use Rattle.sb_pbft.proofs.Model.SlotsAreIndependent.{done-inside, done-outside, top-inside, top-outside}
use Rattle.sb_pbft.proofs.ViewChange.HighestCertificates.{AreLow, NotAt, certified-at, certified-other, kept-low, made}
use Rattle.sb_pbft.proofs.History.ViewsGrow.{grows}

-- the position of a slot
pub where-is : (s : ℕ) (ss : List Slot) → ((t : Slot) × In t ss × (t.0 ≡ s)) ⊎ NotAt s ss
where-is s [] = inr (λ t i e. absurd i)
where-is s (t ∷ ts) = elim (same_or_not t.0 s) [
  | inl e ↦ inl (t, inl refl, e)
  | inr off ↦ elim (where-is s ts) [
    | inl r ↦ inl (r.0, inr r.1, r.2)
    | inr none ↦ inr (λ u i e. elim i [ inl q ↦ off (ap (λ (z : Slot). z.0) (sym q) ∙ e) | inr j ↦ none u j e ])
  ]
]

settled-rest : (p : Params) (h : Held) (v : ℕ) (ss : List Slot) → settled_all p h v ss ≡ record h { top = (settled_all p h v ss).top; done = (settled_all p h v ss).done }
settled-rest p h v [] = refl
settled-rest p h v (s ∷ ss) = settled-rest p (settled p h v s) v ss

module _ (p : Params) (me : ℕ) (x : Item Message) (xs : List (Item Message)) where
  -- the state with the input, before anything is settled
  abbrev pub mid : Held
  mid = record (model p me (x ∷ xs)) { top = λ s. best s (kept p me xs); done = λ s. is_some (delivered pbft p me xs s) }

  -- what the input touches: these slots, in this view
  pub record Touches (v : ℕ) (ss : List Slot) : Type 0 where
    pub within : (t : Slot) → In t ss → In t p.slots
    pub ascending : AreAscending 0 ss
    pub quiet : (t : Slot) → In t p.slots → NotAt t.0 ss → ready p me (inputs (x ∷ xs)) (kept p me xs) t.0 ≡ None
    pub still : (s : ℕ) → NotAt s ss → (w : ℕ) → committed p me (inputs (x ∷ xs)) w s ≡ committed p me (inputs xs) w s
    pub one : (t : Slot) → In t ss → (w : ℕ) → w ≢ v →
        committed p me (inputs (x ∷ xs)) w t.0 ≡ committed p me (inputs xs) w t.0

  low : AreLow (mode p (inputs (x ∷ xs))).view (kept p me xs)
  low c i = let a = kept-low p me xs c i in let b = (grows p (mode p (inputs xs)) x.input).view in omega (arith, a, b)

  pub ready-mid : (s : ℕ) → ready_at p mid s ≡ placed p (ready p me (inputs (x ∷ xs)) (kept p me xs) s) (proposal_sig p me (x ∷ xs) (mode p (inputs (x ∷ xs))).view s)
  ready-mid s = ready-model p me (x ∷ xs) (kept p me xs) s low

  pub committed-mid : (v s : ℕ) →
      committed_at p mid v s ≡ placed p (committed p me (inputs (x ∷ xs)) v s) (proposal_sig p me (x ∷ xs) v s)
  committed-mid v s = committed-model p me (x ∷ xs) v s

  certificate-mid : (t : Slot) → certificate_of p mid t (ready_at p mid t.0) ≡ made p me (x ∷ xs) t (ready p me (inputs (x ∷ xs)) (kept p me xs) t.0)
  certificate-mid t = ap (certificate_of p mid t) (ready-mid t.0) ∙ go (ready p me (inputs (x ∷ xs)) (kept p me xs) t.0)
    where
      go : (o : Option Value) → certificate_of p mid t (placed p o (proposal_sig p me (x ∷ xs) (mode p (inputs (x ∷ xs))).view t.0)) ≡ made p me (x ∷ xs) t o
      go None = refl
      go (Some y) = refl

  or-first : (d c : Option Value) (q : Option (List ℕ)) →
      (is_some d || is_some (cond (is_some d) None (placed p c q))) ≡ is_some (first_of d c)
  or-first (Some y) c q = refl
  or-first None None q = refl
  or-first None (Some y) q = refl

  module _ (v : ℕ) (ss : List Slot) (ascending : AreAscending 0 p.slots) (touches : Touches v ss) where
    top-kept : (t : Slot) → In t p.slots → best t.0 (kept p me (x ∷ xs)) ≡ first_of (made p me (x ∷ xs) t (ready p me (inputs (x ∷ xs)) (kept p me xs) t.0)) (best t.0 (kept p me xs))
    top-kept t i = certified-at p me (x ∷ xs) (kept p me xs) 0 p.slots t (kept p me xs) ascending i low

    top-is : (s : ℕ) → (settled_all p mid v ss).top s ≡ best s (kept p me (x ∷ xs))
    top-is s = elim (where-is s ss) [
      | inl r ↦ subst (λ (z : ℕ). (settled_all p mid v ss).top z ≡ best z (kept p me (x ∷ xs))) r.2
          (top-inside p mid v 0 ss r.0 touches.ascending r.1 ∙
          (ap (λ (o : Option Certificate). first_of o (best r.0.0 (kept p me xs))) (certificate-mid r.0) ∙ sym (top-kept r.0 (touches.within r.0 r.1))))
      | inr off ↦ top-outside p mid v ss s off ∙ past s off (where-is s p.slots)
    ]
      where
        past : (s : ℕ) → NotAt s ss → ((t : Slot) × In t p.slots × (t.0 ≡ s)) ⊎ NotAt s p.slots →
            best s (kept p me xs) ≡ best s (kept p me (x ∷ xs))
        past s off (inl r) = subst (λ (z : ℕ). best z (kept p me xs) ≡ best z (kept p me (x ∷ xs))) r.2
            (sym (top-kept r.0 r.1 ∙ ap (λ (o : Option Value). first_of (made p me (x ∷ xs) r.0 o) (best r.0.0 (kept p me xs)))
            (touches.quiet r.0 r.1 (subst (λ (z : ℕ). NotAt z ss) (sym r.2) off))))
        past s off (inr none) = sym (certified-other p me (x ∷ xs) (kept p me xs) p.slots s (kept p me xs) none)

    done-is : (s : ℕ) → (settled_all p mid v ss).done s ≡ is_some (delivered pbft p me (x ∷ xs) s)
    done-is s = elim (where-is s ss) [
      | inl r ↦ subst (λ (z : ℕ). (settled_all p mid v ss).done z ≡ is_some (delivered pbft p me (x ∷ xs) z)) r.2
          (done-inside p mid v 0 ss r.0 touches.ascending r.1 ∙
          (ap (λ (o : Option Proposal). is_some (delivered pbft p me xs r.0.0) || is_some (cond (is_some (delivered pbft p me xs r.0.0)) None o)) (committed-mid v r.0.0) ∙
          (or-first (delivered pbft p me xs r.0.0) (committed p me (inputs (x ∷ xs)) v r.0.0) (proposal_sig p me (x ∷ xs) v r.0.0) ∙
          ap is_some (sym (newly-delivered p me x xs v r.0.0 (touches.one r.0 r.1))))))
      | inr off ↦ done-outside p mid v ss s off ∙ ap is_some (sym (nothing-delivered p me x xs s (touches.still s off)))
    ]

    pub held-is : settled_all p mid v ss ≡ model p me (x ∷ xs)
    held-is = settled-rest p mid v ss ∙ (λ i. record mid { top = λ s. top-is s i; done = λ s. done-is s i })
