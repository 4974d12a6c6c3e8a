-- The step of a NewView that starts its view agrees with the history. It touches all slots, in its view.
use mathlib.Core.Bool.{and-true as with-true}
use Rattle.std.proofs.Common.{◌≡◌, ◌&&◌, ◌∷◌, ◌++◌, ◌∙◌, ℕ, Bool, true, false, not, cond, List, [], Option, Some, None, refl, sym, ap}
use Rattle.std.proofs.lemmas.Bool.{and_left, and_right, eqb-true, false_from_ne_true, ne_eqb}
use Rattle.std.specs.Prelude.{◌==◌}
use Rattle.iss_base.specs.Lists.{In, first_of}
use Rattle.iss_base.proofs.Lists.{and-true, first_of-none}
use Rattle.iss_request.specs.Slots.{AreAscending}
use Rattle.iss_request.specs.declared.ids.NodeId.{NodeId}
use Rattle.iss_request.specs.declared.ids.Slot.{Slot}
use Rattle.iss_request.specs.declared.requests.Value.{Value}
use Rattle.iss_sb.specs.Calls.{has_slot}
use Rattle.iss_sb.specs.Evidence.{Item}
use Rattle.iss_sb.specs.declared.effects.Input.TheVariants.{Receive}
use Rattle.iss_sb.specs.declared.effects.Params.{Params}
use Rattle.iss_sb.proofs.Slots.{has_slot-In}
use Rattle.pbft_wire.specs.Statements.{digest_of}
use Rattle.pbft_wire.specs.declared.messages.Change.{Change}
use Rattle.pbft_wire.specs.declared.messages.Message.{Message}
use Rattle.pbft_wire.specs.Signed.{NewView}
use Rattle.pbft_views.specs.Choice.{certificates_of, choice}
use Rattle.pbft_views.specs.Good.{primary}
use Rattle.sb_pbft.specs.Makes.{DraftPrepare, answer, choice_strings, inputs, proposal_sig, sig_for, value_strings}
use Rattle.sb_pbft.specs.Rules.{Mode, change_of, commit_of, committed, enters, mode, prepare_of, proposal, when}
use Rattle.sb_pbft.specs.Internal.Turns.{Held, TurnsTo, bare, begins, drafts_all, entered, model, placed, prepares_to}
use Rattle.sb_pbft.proofs.Model.DraftsAgree.{all-said}
use Rattle.sb_pbft.proofs.Basics.{In-has, none-from}
use Rattle.sb_pbft.proofs.Model.DeliveriesAgree.{settles}
use Rattle.sb_pbft.proofs.Model.ProposalsAreSigned.{unsigned}
use Rattle.sb_pbft.proofs.Model.SettledAgrees.{Touches, mid}
use Rattle.sb_pbft.proofs.Model.IgnoredInputs.{item}
use Rattle.sb_pbft.proofs.ViewChange.HighestCertificates.{NotAt}
use Rattle.sb_pbft.proofs.Model.VotesTouchOneSlot.{committed-same, prepared-same}
use Rattle.sb_pbft.proofs.History.ViewsGrow.{Said, not-newer, proposed-choice, seen}
use Rattle.sb_pbft.proofs.History.ViewsGrow as views

module _ (p : Params) (me leaf : ℕ) (xs : List (Item Message)) (ascending : AreAscending 0 p.slots) (from : NodeId) (v : ℕ) (vs : List Change) (sigs : List (List ℕ)) (sig : List ℕ)
    (yes : enters p (mode p (inputs xs)) from.0 v vs sigs ≡ true) where
  abbrev said : Said
  said = Receive from (NewView v vs sigs sig)

  abbrev next : Mode
  next = record { view = v; active = true }

  abbrev new : Item Message
  new = item p me leaf xs said

  mode-next : mode p (said ∷ inputs xs) ≡ next
  mode-next = ap (λ (b : Bool). cond b next (mode p (inputs xs))) yes

  -- ---- its proposals

  abbrev is-here : ℕ → ℕ → Bool
  is-here w s = (w == v) && has_slot s p.slots

  here : (w s : ℕ) → ((w == v) && (has_slot s p.slots && enters p (mode p (inputs xs)) from.0 v vs sigs)) ≡ is-here w s
  here w s = ap (λ (b : Bool). (w == v) && (has_slot s p.slots && b)) yes ∙ ap (λ (b : Bool). (w == v) && b) (with-true (has_slot s p.slots))

  proposal-on : (w s : ℕ) →
      proposal p me (said ∷ inputs xs) w s ≡ first_of (when (is-here w s) (choice vs s)) (proposal p me (inputs xs) w s)
  proposal-on w s = λ j. first_of (when (here w s j) (choice vs s)) (first_of-none (proposal p me (inputs xs) w s) j)

  sig-on : (w s : ℕ) → proposal_sig p me (new ∷ xs) w s ≡ first_of (cond (is-here w s) (sig_for s p.slots sigs) None) (proposal_sig p me xs w s)
  sig-on w s = λ j. first_of (cond (here w s j) (sig_for s p.slots sigs) None) (first_of-none (proposal_sig p me xs w s) j)

  -- a view that is entered had no proposals
  fresh : (s : ℕ) → proposal p me (inputs xs) v s ≡ None
  fresh s = none-from (proposal p me (inputs xs) v s) (λ x h. not-newer (mode p (inputs xs)) v (seen p me (inputs xs) v s x h) (views.entered p (mode p (inputs xs)) from.0 v vs sigs yes).newer)

  put : (w s : ℕ) (b : Bool) → is-here w s ≡ b →
      first_of (cond b (placed p (Some (choice vs s)) (sig_for s p.slots sigs)) None) (placed p (proposal p me (inputs xs) w s) (proposal_sig p me xs w s)) ≡
      placed p (first_of (when b (choice vs s)) (proposal p me (inputs xs) w s)) (first_of (cond b (sig_for s p.slots sigs) None) (proposal_sig p me xs w s))
  put w s false k = refl
  put w s true k =
      let e : w ≡ v = eqb-true w v (and-true (w == v) (has_slot s p.slots) k).0 in
      let none : proposal_sig p me xs w s ≡ None = unsigned p me xs w s (ap (λ (z : ℕ). proposal p me (inputs xs) z s) e ∙ fresh s) in
      sym (ap (λ (o : Option (List ℕ)). placed p (Some (choice vs s)) (first_of (sig_for s p.slots sigs) o)) none ∙
      ap (λ (o : Option (List ℕ)). placed p (Some (choice vs s)) o) (first_of-none (sig_for s p.slots sigs)))

  with-view : entered p (model p me xs) v vs sigs ≡ mid p me new xs
  with-view = λ j. record (model p me xs) {
    mode = sym mode-next j;
    proposal = λ w s. (put w s (is-here w s) refl ∙ (λ k. placed p (sym (proposal-on w s) k) (sym (sig-on w s) k))) j;
    prepare = λ w s k. sym (first_of-none (prepare_of p (inputs xs) w s k)) j;
    commit = λ w s k. bare (sym (first_of-none (commit_of p (inputs xs) w s k)) j);
    change = λ w k. sym (first_of-none (change_of p (inputs xs) w k)) j;
  }

  -- ---- what it touches

  committed-apart : (w s : ℕ) → is-here w s ≡ false →
      committed p me (said ∷ inputs xs) w s ≡ committed p me (inputs xs) w s
  committed-apart w s off = committed-same p me said (inputs xs) w s
      (prepared-same p me said (inputs xs) w s (proposal-on w s ∙ ap (λ (b : Bool). first_of (when b (choice vs s)) (proposal p me (inputs xs) w s)) off) (λ k. first_of-none (prepare_of p (inputs xs) w s k)))
      (λ k. first_of-none (commit_of p (inputs xs) w s k))

  outside : (s : ℕ) → NotAt s p.slots → has_slot s p.slots ≡ false
  outside s off = let slot : Slot = record { 0 = s } in false_from_ne_true (has_slot s p.slots) (λ h. off slot (has_slot-In slot p.slots h) refl)

  touches : Touches p me new xs v p.slots
  touches = record {
    within = λ t j. j;
    ascending = ascending;
    quiet = λ t j off. absurd (off t j refl);
    still = λ s off w. committed-apart w s (and_right (w == v) (has_slot s p.slots) (outside s off));
    one = λ t j w off. committed-apart w t.0 (and_left (w == v) (has_slot t.0 p.slots) (ne_eqb w v off));
  }

  -- ---- its messages

  abbrev answers : Bool
  answers = not (me == primary p v)

  answered : (t : Slot) → In t p.slots →
      cond answers (prepares_to v t ((mid p me new xs).proposal v t.0)) [] ≡ answer p me (mode p (inputs xs)) said t
  answered t j =
      ap (λ (o : Option Value). cond answers (prepares_to v t (placed p o (proposal_sig p me (new ∷ xs) v t.0))) [])
      (proposed-choice p me (inputs xs) from v t.0 vs sigs sig yes (In-has t p.slots j)) ∙
      sym (ap (λ (b : Bool). cond (b && answers) (DraftPrepare v t (digest_of p (choice vs t.0)) ∷ []) []) yes)

  pub new-view-turns : TurnsTo p me xs said leaf (begins p me (model p me xs) v vs sigs)
  new-view-turns =
      let s = settles p me new xs v p.slots (entered p (model p me xs) v vs sigs) ascending touches with-view in
      record {
        held = s.0;
        drafts = ap (λ (z : Held). drafts_all p z answers v p.slots) with-view ∙ all-said p me new xs answers v 0 p.slots ascending answered;
        strings = sym (ap (λ (b : Bool). cond b (value_strings p (certificates_of vs) ++ choice_strings p vs p.slots) []) yes);
        accepted = refl;
        delivers = s.1;
      }
