-- The steps of a Cast and of a PrePrepare agree with the history: if a proposal exists, nothing changes; else the
-- slot is touched in view 0.
use Rattle.std.proofs.Common.{◌≡◌, ◌≢◌, ◌⊎◌, ◌&&◌, ◌∷◌, ◌++◌, ◌∙◌, ℕ, Bool, true, false, cond, List, [], Option, Some, None, refl, sym, ap, subst, inl, inr, arith}
use Rattle.std.proofs.lemmas.Bool.{and_left, and_right, cases_Bool, eqb-true, false≢true, ne_eqb}
use Rattle.std.specs.Prelude.{is_some, ◌==◌}
use Rattle.iss_base.specs.Lists.{first_of}
use Rattle.iss_base.proofs.Lists.{and-true, first_of-none}
use Rattle.iss_request.specs.Slots.{AreAscending}
use Rattle.iss_request.specs.declared.ids.NodeId.{NodeId}
use Rattle.iss_request.specs.declared.ids.Slot.{Slot}
use Rattle.iss_request.specs.declared.requests.Batch.{Batch}
use Rattle.iss_request.specs.declared.requests.Value.{Value}
use Rattle.iss_request.specs.declared.requests.Value.TheVariants.{Batch as Value_batch}
use Rattle.iss_sb.specs.Calls.{has_slot}
use Rattle.iss_sb.specs.Evidence.{Item}
use Rattle.iss_sb.specs.declared.effects.Input.TheVariants.{Cast, Receive}
use Rattle.iss_sb.specs.declared.effects.Params.{Params}
use Rattle.iss_sb.proofs.Slots.{has_slot-In}
use Rattle.pbft_wire.specs.declared.messages.Message.{Message}
use Rattle.pbft_wire.specs.Signed.{PrePrepare}
use Rattle.sb_pbft.specs.Makes.{Draft, answer, asked_strings, by_slot, chosen_sig, first_draft, first_sig, inputs, kept, lead, offered_sig, proposal_sig, strings}
use Rattle.sb_pbft.specs.Rules.{Mode, asked, asked_of, change_in, change_of, chosen, commit_in, commit_of, committed, mode, mode_after, offer, offered, prepare_in, prepare_of, prepared, proposal, unless, when}
use Rattle.sb_pbft.specs.Internal.Turns.{Held, TurnsTo, accepts_of, and_said, asked_at, at_slots, bare, drafts_all, first_proposal, free, model, placed, with_proposal}
use Rattle.sb_pbft.specs.declared.proposals.Proposal.{Proposal}
use Rattle.sb_pbft.proofs.Model.DraftsAgree.{calm, slot-said}
use Rattle.sb_pbft.proofs.History.AcceptedAndDecided.{IsAsked, asked-is, offer-within}
use Rattle.sb_pbft.proofs.Basics.{first-none}
use Rattle.sb_pbft.proofs.Model.DeliveriesAgree.{settles}
use Rattle.sb_pbft.proofs.Model.ProposalsAreSigned.{proposal-signed, unsigned}
use Rattle.sb_pbft.proofs.Model.SettledAgrees.{Touches, mid}
use Rattle.sb_pbft.proofs.Model.IgnoredInputs.{ChangesNothing, item, still-turns}
use Rattle.sb_pbft.proofs.Model.VotesTouchOneSlot.{at-slot, committed-same, in-slots, prepared-same, ready-same}
use Rattle.sb_pbft.proofs.History.ViewsGrow.{Said}
use Rattle.sb_pbft.proofs.Model.VoteTurn.{not-other}

keeps : {A : Type 0} (o d : Option A) → is_some o ≡ true → first_of o d ≡ o
keeps None d h = absurd (false≢true h)
keeps (Some x) d h = refl

module _ (p : Params) (me leaf : ℕ) (xs : List (Item Message)) where
  -- only the batch that the input offers matters
  pub record OffersAlone (i : Said) : Type 0 where
    pub stays : (m : Mode) → mode_after p m i ≡ m
    pub chooses : (m : Mode) (v s : ℕ) → chosen p m i v s ≡ None
    pub signs : (m : Mode) (v s : ℕ) → chosen_sig p m i v s ≡ None
    pub prepares : (v s k : ℕ) → prepare_in p i v s k ≡ None
    pub commits : (v s k : ℕ) → commit_in p i v s k ≡ None
    pub changes : (v k : ℕ) → change_in p i v k ≡ None
    pub leads : lead p me xs i ≡ first_draft p me (asked p me (inputs xs) i)
    pub silent : (m : Mode) (t : Slot) → answer p me m i t ≡ []
    pub hashes : strings p me (inputs xs) i ≡ asked_strings p (asked p me (inputs xs) i)

  pub cast-offers : (slot : Slot) (batch : Batch) → OffersAlone (Cast slot batch)
  cast-offers slot batch = record {
    stays = λ m. refl;
    chooses = λ m v s. refl;
    signs = λ m v s. refl;
    prepares = λ v s k. refl;
    commits = λ v s k. refl;
    changes = λ v k. refl;
    leads = refl;
    silent = λ m t. refl;
    hashes = refl;
  }

  pub told-offers : (from : NodeId) (w : ℕ) (slot : Slot) (x : Value) (sig : List ℕ) →
      OffersAlone (Receive from (PrePrepare w slot x sig))
  told-offers from w slot x sig = record {
    stays = λ m. refl;
    chooses = λ m v s. refl;
    signs = λ m v s. refl;
    prepares = λ v s k. refl;
    commits = λ v s k. refl;
    changes = λ v k. refl;
    leads = refl;
    silent = λ m t. refl;
    hashes = refl;
  }

  -- the accepted batch is computed from the state
  asked-same : (o : Option (Slot × Batch)) → free (model p me xs) o ≡ asked_of p me (inputs xs) o
  asked-same None = refl
  asked-same (Some a) = go (proposal p me (inputs xs) 0 a.0.0)
    where
      go : (o : Option Value) → ◌≡◌ {A = Option (Slot × Batch)} (cond (is_some (placed p o (proposal_sig p me xs 0 a.0.0))) None (Some a)) (unless o a)
      go None = refl
      go (Some y) = refl

  module _ (ascending : AreAscending 0 p.slots) (i : Said) (alone : OffersAlone i) where
    proposal-on : (v s : ℕ) → proposal p me (i ∷ inputs xs) v s ≡ first_of (proposal p me (inputs xs) v s) (offered (offer p me (mode p (inputs xs)) i) v s)
    proposal-on v s = first-none (chosen p (mode p (inputs xs)) i v s) _ (alone.chooses (mode p (inputs xs)) v s)

    sig-on : (v s : ℕ) → proposal_sig p me (item p me leaf xs i ∷ xs) v s ≡
        first_of (proposal_sig p me xs v s) (offered_sig p me (offer p me (mode p (inputs xs)) i) v s (item p me leaf xs i))
    sig-on v s = first-none (chosen_sig p (mode p (inputs xs)) i v s) _ (alone.signs (mode p (inputs xs)) v s)

    prepare-on : (v s k : ℕ) → prepare_of p (i ∷ inputs xs) v s k ≡ prepare_of p (inputs xs) v s k
    prepare-on v s k = ap (first_of (prepare_of p (inputs xs) v s k)) (alone.prepares v s k) ∙ first_of-none (prepare_of p (inputs xs) v s k)

    commit-on : (v s k : ℕ) → commit_of p (i ∷ inputs xs) v s k ≡ commit_of p (inputs xs) v s k
    commit-on v s k = ap (first_of (commit_of p (inputs xs) v s k)) (alone.commits v s k) ∙ first_of-none (commit_of p (inputs xs) v s k)

    change-on : (v k : ℕ) → change_of p (i ∷ inputs xs) v k ≡ change_of p (inputs xs) v k
    change-on v k = ap (first_of (change_of p (inputs xs) v k)) (alone.changes v k) ∙ first_of-none (change_of p (inputs xs) v k)

    -- ---- if nothing is accepted

    record Unread (v s : ℕ) (o : Option (Slot × Batch)) : Type 0 where
      value : first_of (proposal p me (inputs xs) v s) (offered o v s) ≡ proposal p me (inputs xs) v s
      whole : placed p (first_of (proposal p me (inputs xs) v s) (offered o v s)) (first_of (proposal_sig p me xs v s) (offered_sig p me o v s (item p me leaf xs i))) ≡
          placed p (proposal p me (inputs xs) v s) (proposal_sig p me xs v s)

    taken : (a : Slot × Batch) (o : Option Value) → ◌≡◌ {A = Option (Slot × Batch)} (unless o a) None → is_some o ≡ true
    taken a None h = absurd (cc)
    taken a (Some y) h = refl

    unread : (v s : ℕ) (o : Option (Slot × Batch)) →
        ◌≡◌ {A = Option (Slot × Batch)} (asked_of p me (inputs xs) o) None → Unread v s o
    unread v s None h = record {
      value = first_of-none (proposal p me (inputs xs) v s);
      whole = λ j. placed p (first_of-none (proposal p me (inputs xs) v s) j) (first_of-none (proposal_sig p me xs v s) j);
    }
    unread v s (Some a) h = elim (cases_Bool ((v == 0) && (s == a.0.0))) [
      | inl k ↦
          let some : is_some (proposal p me (inputs xs) v s) ≡ true = here v s a k (taken a (proposal p me (inputs xs) 0 a.0.0) h) in
          let signed : is_some (proposal_sig p me xs v s) ≡ true = sym (proposal-signed p me xs v s) ∙ some in
          record {
            value = keeps (proposal p me (inputs xs) v s) (offered (Some a) v s) some;
            whole = λ j. placed p (keeps (proposal p me (inputs xs) v s) (offered (Some a) v s) some j)
                (keeps (proposal_sig p me xs v s) (offered_sig p me (Some a) v s (item p me leaf xs i)) signed j);
          }
      | inr k ↦ record {
        value = ap (λ (b : Bool). first_of (proposal p me (inputs xs) v s) (when b (Value_batch a.1))) k ∙ first_of-none (proposal p me (inputs xs) v s);
        whole =
            ap (λ (b : Bool). placed p (first_of (proposal p me (inputs xs) v s) (when b (Value_batch a.1))) (first_of (proposal_sig p me xs v s) (when b (first_sig p me leaf a i)))) k ∙
            (λ j. placed p (first_of-none (proposal p me (inputs xs) v s) j) (first_of-none (proposal_sig p me xs v s) j));
      }
    ]
      where
        here : (v s : ℕ) (a : Slot × Batch) → ((v == 0) && (s == a.0.0)) ≡ true →
            is_some (proposal p me (inputs xs) 0 a.0.0) ≡ true → is_some (proposal p me (inputs xs) v s) ≡ true
        here v s a k h =
            let t = and-true (v == 0) (s == a.0.0) k in
            let e : v ≡ 0 = eqb-true v 0 t.0 in
            let f : s ≡ a.0.0 = eqb-true s a.0.0 t.1 in
            (λ j. is_some (proposal p me (inputs xs) (e j) (f j))) ∙ h

    nothing-offered : ◌≡◌ {A = Option (Slot × Batch)} (asked p me (inputs xs) i) None → ChangesNothing p me leaf xs i
    nothing-offered h = record {
      stays = alone.stays (mode p (inputs xs));
      values = λ v s. proposal-on v s ∙ (unread v s (offer p me (mode p (inputs xs)) i) h).value;
      proposals = λ v s. (λ j. placed p (proposal-on v s j) (sig-on v s j)) ∙ (unread v s (offer p me (mode p (inputs xs)) i) h).whole;
      prepares = prepare-on;
      commits = commit-on;
      changes = change-on;
      leads = alone.leads ∙ ap (first_draft p me) h;
      silent = alone.silent (mode p (inputs xs));
      hashes = alone.hashes ∙ ap (asked_strings p) h;
      unasked = h;
    }

    -- ---- if a batch is accepted

    module _ (a : Slot × Batch) (h : ◌≡◌ {A = Option (Slot × Batch)} (asked p me (inputs xs) i) (Some a)) where
      is : IsAsked p me (inputs xs) i a
      is = asked-is p me (inputs xs) i a h

      abbrev at-first : ℕ → ℕ → Bool
      at-first v s = (v == 0) && (s == a.0.0)

      proposal-with : (v s : ℕ) → proposal p me (i ∷ inputs xs) v s ≡ first_of (proposal p me (inputs xs) v s) (when (at-first v s) (Value_batch a.1))
      proposal-with v s = proposal-on v s ∙ ap (λ (o : Option (Slot × Batch)). first_of (proposal p me (inputs xs) v s) (offered o v s)) is.offered

      sig-with : (v s : ℕ) → proposal_sig p me (item p me leaf xs i ∷ xs) v s ≡ first_of (proposal_sig p me xs v s) (when (at-first v s) (first_sig p me leaf a i))
      sig-with v s = sig-on v s ∙ ap (λ (o : Option (Slot × Batch)). first_of (proposal_sig p me xs v s) (offered_sig p me o v s (item p me leaf xs i))) is.offered

      -- ---- nothing changes elsewhere

      elsewhere : (v s : ℕ) → (v ≢ 0) ⊎ (s ≢ a.0.0) → at-first v s ≡ false
      elsewhere v s (inl off) = and_left (v == 0) (s == a.0.0) (ne_eqb v 0 off)
      elsewhere v s (inr off) = and_right (v == 0) (s == a.0.0) (ne_eqb s a.0.0 off)

      prepared-apart : (v s : ℕ) → (v ≢ 0) ⊎ (s ≢ a.0.0) →
          prepared p me (i ∷ inputs xs) v s ≡ prepared p me (inputs xs) v s
      prepared-apart v s off = prepared-same p me i (inputs xs) v s
          (proposal-with v s ∙ (ap (λ (b : Bool). first_of (proposal p me (inputs xs) v s) (when b (Value_batch a.1))) (elsewhere v s off) ∙ first_of-none (proposal p me (inputs xs) v s)))
          (λ k. prepare-on v s k)

      committed-apart : (v s : ℕ) → (v ≢ 0) ⊎ (s ≢ a.0.0) →
          committed p me (i ∷ inputs xs) v s ≡ committed p me (inputs xs) v s
      committed-apart v s off = committed-same p me i (inputs xs) v s (prepared-apart v s off) (λ k. commit-on v s k)

      within : has_slot a.0.0 p.slots ≡ true
      within = offer-within p me (mode p (inputs xs)) i a is.offered

      touches : Touches p me (item p me leaf xs i) xs 0 (a.0 ∷ [])
      touches = record {
        within = in-slots p a.0 within;
        ascending = (omega arith, tt);
        quiet = λ t j off. ready-same p me i (inputs xs) (kept p me xs) t.0 (alone.stays (mode p (inputs xs)))
            (prepared-apart (mode p (inputs xs)).view t.0 (inr (at-slot p a.0 t.0 off))) ∙ calm p me xs t j;
        still = λ s off w. committed-apart w s (inr (at-slot p a.0 s off));
        one = λ t j w off. committed-apart w t.0 (inl off);
      }

      -- ---- the state with the proposal

      abbrev first : Proposal
      first = first_proposal p a (first_sig p me leaf a i)

      put : (v s : ℕ) → (b : Bool) → at-first v s ≡ b →
          cond b (Some first) (placed p (proposal p me (inputs xs) v s) (proposal_sig p me xs v s)) ≡
          placed p (first_of (proposal p me (inputs xs) v s) (when b (Value_batch a.1))) (first_of (proposal_sig p me xs v s) (when b (first_sig p me leaf a i)))
      put v s false k = λ j. placed p (sym (first_of-none (proposal p me (inputs xs) v s)) j) (sym (first_of-none (proposal_sig p me xs v s)) j)
      put v s true k =
          let t = and-true (v == 0) (s == a.0.0) k in
          let e : v ≡ 0 = eqb-true v 0 t.0 in
          let f : s ≡ a.0.0 = eqb-true s a.0.0 t.1 in
          let none : proposal p me (inputs xs) v s ≡ None = (λ j. proposal p me (inputs xs) (e j) (f j)) ∙ is.fresh in
          let bare : proposal_sig p me xs v s ≡ None = unsigned p me xs v s none in
          λ j. placed p (first_of (sym none j) (Some (Value_batch a.1))) (first_of (sym bare j) (Some (first_sig p me leaf a i)))

      with-first : with_proposal (model p me xs) 0 a.0.0 first ≡ mid p me (item p me leaf xs i) xs
      with-first = λ j. record (model p me xs) {
        mode = sym (alone.stays (mode p (inputs xs))) j;
        proposal = λ v s. (put v s (at-first v s) refl ∙ (λ k. placed p (sym (proposal-with v s) k) (sym (sig-with v s) k))) j;
        prepare = λ v s k. sym (prepare-on v s k) j;
        commit = λ v s k. bare (sym (commit-on v s k) j);
        change = λ v k. sym (change-on v k) j;
      }

      accepted-turns : TurnsTo p me xs i leaf (and_said p me a (at_slots p (with_proposal (model p me xs) 0 a.0.0 first) false 0 (a.0 ∷ [])))
      accepted-turns =
          let s = settles p me (item p me leaf xs i) xs 0 (a.0 ∷ []) (with_proposal (model p me xs) 0 a.0.0 first) ascending touches with-first in
          record {
            held = s.0;
            drafts =
                ap (λ (z : Held). first_draft p me (Some a) ++ drafts_all p z false 0 (a.0 ∷ [])) with-first ∙
                (ap (λ (z : List Draft). first_draft p me (Some a) ++ z)
                (slot-said p me (item p me leaf xs i) xs 0 a.0 ascending (has_slot-In a.0 p.slots within) (λ u j. alone.silent (mode p (inputs xs)) u) (λ u j off. touches.quiet u j (not-other a.0 u off))) ∙
                ap (λ (z : List Draft). z ++ by_slot p me xs i p.slots) (ap (first_draft p me) (sym h) ∙ sym alone.leads));
            strings = ap (asked_strings p) (sym h) ∙ sym alone.hashes;
            accepted = sym h;
            delivers = s.1;
          }

    pub offer-turns : TurnsTo p me xs i leaf (accepts_of p me leaf (model p me xs) i (asked_at p me (model p me xs) i))
    offer-turns =
        subst (λ (o : Option (Slot × Batch)). TurnsTo p me xs i leaf (accepts_of p me leaf (model p me xs) i o)) (sym (asked-same (offer p me (mode p (inputs xs)) i)))
        (go (asked p me (inputs xs) i) refl)
      where
        go : (o : Option (Slot × Batch)) → ◌≡◌ {A = Option (Slot × Batch)} (asked p me (inputs xs) i) o →
            TurnsTo p me xs i leaf (accepts_of p me leaf (model p me xs) i o)
        go None h = still-turns p me leaf xs ascending i (nothing-offered h)
        go (Some a) h = accepted-turns a h
