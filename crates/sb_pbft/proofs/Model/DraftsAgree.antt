-- The messages of a step, slot by slot, computed from the state, are those of the history.
use Rattle.std.proofs.Common.{◌≡◌, ◌≢◌, ◌∷◌, ◌++◌, ◌∙◌, ℕ, suc, Bool, false, cond, List, [], Option, Some, None, refl, sym, ap, append_assoc, append-nil, inl, inr, arith}
use Rattle.iss_base.specs.Lists.{In}
use Rattle.iss_request.specs.Slots.{AreAscending}
use Rattle.iss_request.specs.declared.ids.Slot.{Slot}
use Rattle.iss_request.specs.declared.requests.Value.{Value}
use Rattle.iss_sb.specs.Evidence.{Item}
use Rattle.iss_sb.specs.declared.effects.Params.{Params}
use Rattle.pbft_wire.specs.declared.messages.Message.{Message}
use Rattle.sb_pbft.specs.Makes.{Draft, answer, by_slot, commit_draft, inputs, kept, proposal_sig, ready}
use Rattle.sb_pbft.specs.Rules.{mode}
use Rattle.sb_pbft.specs.Internal.Turns.{commits_to, drafts_all, placed, prepares_to, ready_at}
use Rattle.sb_pbft.proofs.Model.SlotsAreIndependent.{drafts-each, drafts_each}
use Rattle.sb_pbft.proofs.Model.SettledAgrees.{mid, ready-mid}
use Rattle.sb_pbft.proofs.ViewChange.HighestCertificates.{above, nothing-left}

-- at the start and after each step no Commit is due
pub calm : (p : Params) (me : ℕ) (xs : List (Item Message)) (t : Slot) → In t p.slots →
    ready p me (inputs xs) (kept p me xs) t.0 ≡ None
calm p me [] t i = refl
calm p me (x ∷ xs) t i = nothing-left p me x xs t i

module _ (p : Params) (me : ℕ) (x : Item Message) (xs : List (Item Message)) where
  abbrev is-ready : Slot → Option Value
  is-ready t = ready p me (inputs (x ∷ xs)) (kept p me xs) t.0

  abbrev committing : Slot → List Draft
  committing t = commit_draft p (mode p (inputs (x ∷ xs))).view t (is-ready t)

  commit-same : (t : Slot) →
      commits_to (mode p (inputs (x ∷ xs))).view t (ready_at p (mid p me x xs) t.0) ≡ committing t
  commit-same t = ap (commits_to (mode p (inputs (x ∷ xs))).view t) (ready-mid p me x xs t.0) ∙ go (is-ready t)
    where
      go : (o : Option Value) → commits_to (mode p (inputs (x ∷ xs))).view t (placed p o (proposal_sig p me (x ∷ xs) (mode p (inputs (x ∷ xs))).view t.0)) ≡ commit_draft p (mode p (inputs (x ∷ xs))).view t o
      go None = refl
      go (Some y) = refl

  -- ---- at all of the slots

  each-said : (answers : Bool) (v : ℕ) (ss : List Slot) →
      ((t : Slot) → In t ss → cond answers (prepares_to v t ((mid p me x xs).proposal v t.0)) [] ≡ answer p me (mode p (inputs xs)) x.input t) →
      drafts_each p (mid p me x xs) answers v ss ≡ by_slot p me xs x.input ss
  each-said answers v [] same = refl
  each-said answers v (t ∷ ts) same =
      append_assoc (cond answers (prepares_to v t ((mid p me x xs).proposal v t.0)) []) (commits_to (mode p (inputs (x ∷ xs))).view t (ready_at p (mid p me x xs) t.0)) (drafts_each p (mid p me x xs) answers v ts) ∙
      (ap (λ (z : List Draft). z ++ (commits_to (mode p (inputs (x ∷ xs))).view t (ready_at p (mid p me x xs) t.0) ++ drafts_each p (mid p me x xs) answers v ts)) (same t (inl refl)) ∙
      (ap (λ (z : List Draft). answer p me (mode p (inputs xs)) x.input t ++ (z ++ drafts_each p (mid p me x xs) answers v ts)) (commit-same t) ∙
      ap (λ (z : List Draft). answer p me (mode p (inputs xs)) x.input t ++ (committing t ++ z)) (each-said answers v ts (λ u i. same u (inr i)))))

  pub all-said : (answers : Bool) (v from : ℕ) (ss : List Slot) → AreAscending from ss →
      ((t : Slot) → In t ss → cond answers (prepares_to v t ((mid p me x xs).proposal v t.0)) [] ≡ answer p me (mode p (inputs xs)) x.input t) →
      drafts_all p (mid p me x xs) answers v ss ≡ by_slot p me xs x.input ss
  all-said answers v from ss ascending same = drafts-each p (mid p me x xs) answers v from ss ascending ∙ each-said answers v ss same

  -- ---- at one of them, if the replica does not answer

  pub none-said : (ss : List Slot) → ((t : Slot) → In t ss → answer p me (mode p (inputs xs)) x.input t ≡ []) →
      ((t : Slot) → In t ss → is-ready t ≡ None) → by_slot p me xs x.input ss ≡ []
  none-said [] silent quiet = refl
  none-said (t ∷ ts) silent quiet =
      ap (λ (z : List Draft). z ++ (committing t ++ by_slot p me xs x.input ts)) (silent t (inl refl)) ∙
      (ap (λ (o : Option Value). commit_draft p (mode p (inputs (x ∷ xs))).view t o ++ by_slot p me xs x.input ts) (quiet t (inl refl)) ∙
      none-said ts (λ u i. silent u (inr i)) (λ u i. quiet u (inr i)))

  one-said : (from : ℕ) (ss : List Slot) (t : Slot) → AreAscending from ss → In t ss →
      ((u : Slot) → In u ss → answer p me (mode p (inputs xs)) x.input u ≡ []) →
      ((u : Slot) → In u ss → u.0 ≢ t.0 → is-ready u ≡ None) → by_slot p me xs x.input ss ≡ committing t
  one-said from [] t ascending i silent quiet = absurd i
  one-said from (u ∷ us) t ascending (inl e) silent quiet =
      ap (λ (z : List Draft). z ++ (committing u ++ by_slot p me xs x.input us)) (silent u (inl refl)) ∙
      (ap (λ (z : List Draft). committing u ++ z) (none-said us (λ w i. silent w (inr i)) (λ w i. quiet w (inr i) (off w i))) ∙
      (append-nil (committing u) ∙ ap committing (sym e)))
    where
      off : (w : Slot) → In w us → w.0 ≢ t.0
      off w i q = let l = above (suc u.0) us w ascending.1 i in let k = ap (λ (z : Slot). z.0) e in absurd (omega (arith, l, q, k))
  one-said from (u ∷ us) t ascending (inr i) silent quiet =
      ap (λ (z : List Draft). z ++ (committing u ++ by_slot p me xs x.input us)) (silent u (inl refl)) ∙
      (ap (λ (o : Option Value). commit_draft p (mode p (inputs (x ∷ xs))).view u o ++ by_slot p me xs x.input us) (quiet u (inl refl) off) ∙
      one-said (suc u.0) us t ascending.1 i (λ w j. silent w (inr j)) (λ w j. quiet w (inr j)))
    where
      off : u.0 ≢ t.0
      off q = let l = above (suc u.0) us t ascending.1 i in absurd (omega (arith, l, q))

  pub slot-said : (v : ℕ) (t : Slot) → AreAscending 0 p.slots → In t p.slots →
      ((u : Slot) → In u p.slots → answer p me (mode p (inputs xs)) x.input u ≡ []) →
      ((u : Slot) → In u p.slots → u.0 ≢ t.0 → is-ready u ≡ None) → drafts_all p (mid p me x xs) false v (t ∷ []) ≡ by_slot p me xs x.input p.slots
  slot-said v t ascending i silent quiet = append-nil (commits_to (mode p (inputs (x ∷ xs))).view t (ready_at p (mid p me x xs) t.0)) ∙ (commit-same t ∙ sym (one-said 0 p.slots t ascending i silent quiet))
