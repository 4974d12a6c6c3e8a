-- Inputs that change nothing: votes that do not count, a NewView that starts no view, a timeout in the last view.
use Rattle.std.proofs.Common.{◌≡◌, ◌+◌, ◌&&◌, ◌∷◌, ◌++◌, ◌∙◌, ℕ, Bool, true, false, not, cond, List, [], None, refl, sym, ap}
use Rattle.std.proofs.lemmas.Bool.{and_right}
use Rattle.std.specs.Prelude.{◌==◌}
use Rattle.iss_base.specs.Lists.{In, first_of}
use Rattle.iss_base.proofs.Lists.{first_of-none}
use Rattle.iss_request.specs.Slots.{AreAscending}
use Rattle.iss_request.specs.declared.ids.NodeId.{NodeId}
use Rattle.iss_request.specs.declared.ids.Slot.{Slot}
use Rattle.iss_sb.specs.Calls.{has_slot}
use Rattle.iss_sb.specs.Evidence.{Item}
use Rattle.iss_sb.specs.declared.effects.Input.TheVariants.{Receive, Timeout}
use Rattle.iss_sb.specs.declared.effects.Params.{Params}
use Rattle.pbft_wire.specs.Statements.{digest_of}
use Rattle.pbft_wire.specs.declared.messages.Change.{Change}
use Rattle.pbft_wire.specs.declared.messages.Message.{Message}
use Rattle.pbft_wire.specs.Signed.{Commit, NewView, Prepare}
use Rattle.pbft_views.specs.Choice.{certificates_of, choice}
use Rattle.pbft_views.specs.Good.{primary}
use Rattle.sb_pbft.specs.Makes.{Draft, DraftPrepare, DraftViewChange, answer, by_slot, choice_strings, inputs, kept, lead, proposal_sig, ready, sig_for, strings, tops, value_strings}
use Rattle.sb_pbft.specs.Pbft.{pbft}
use Rattle.sb_pbft.specs.Rules.{Ballot, asked, change_of, commit_of, enters, is_at, mode, passes, prepare_of, proposal, when}
use Rattle.sb_pbft.specs.Internal.Turns.{TurnsTo, bare, idle, model, placed}
use Rattle.sb_pbft.proofs.Model.DraftsAgree.{none-said}
use Rattle.sb_pbft.proofs.Model.DeliveriesAgree.{delivers-is}
use Rattle.sb_pbft.proofs.Model.SettledAgrees.{Touches, held-is, mid}
use Rattle.sb_pbft.proofs.Model.VotesTouchOneSlot.{BringsNone, quiet-still, touches-none}
use Rattle.sb_pbft.proofs.History.ViewsGrow.{Said}

module _ (p : Params) (me leaf : ℕ) (xs : List (Item Message)) where
  abbrev pub item : Said → Item Message
  item i = record { input = i; leaf = leaf; made = pbft.makes p me xs i leaf }

  -- nothing depends on the input, and nothing is sent
  pub record ChangesNothing (i : Said) : Type 0 where
    pub stays : mode p (i ∷ inputs xs) ≡ mode p (inputs xs)
    pub values : (v s : ℕ) → proposal p me (i ∷ inputs xs) v s ≡ proposal p me (inputs xs) v s
    pub proposals : (v s : ℕ) → placed p (proposal p me (i ∷ inputs xs) v s) (proposal_sig p me (item i ∷ xs) v s) ≡ placed p (proposal p me (inputs xs) v s) (proposal_sig p me xs v s)
    pub prepares : (v s k : ℕ) → prepare_of p (i ∷ inputs xs) v s k ≡ prepare_of p (inputs xs) v s k
    pub commits : (v s k : ℕ) → commit_of p (i ∷ inputs xs) v s k ≡ commit_of p (inputs xs) v s k
    pub changes : (v k : ℕ) → change_of p (i ∷ inputs xs) v k ≡ change_of p (inputs xs) v k
    pub leads : lead p me xs i ≡ []
    pub silent : (t : Slot) → answer p me (mode p (inputs xs)) i t ≡ []
    pub hashes : strings p me (inputs xs) i ≡ []
    pub unasked : asked p me (inputs xs) i ≡ None

  module _ (ascending : AreAscending 0 p.slots) where
    pub still-turns : (i : Said) → ChangesNothing i → TurnsTo p me xs i leaf (idle (model p me xs))
    still-turns i c = record {
      held = same ∙ held-is p me (item i) xs 0 [] ascending touches;
      drafts = sym (ap (λ (z : List Draft). z ++ by_slot p me xs i p.slots) c.leads ∙ none-said p me (item i) xs p.slots (λ t j. c.silent t) quiet);
      strings = sym c.hashes;
      accepted = sym c.unasked;
      delivers = delivers-is p me (item i) xs 0 [] touches;
    }
      where
        none : BringsNone p me (item i) xs
        none = record { values = c.values; prepares = c.prepares; commits = c.commits }

        quiet : (t : Slot) → In t p.slots → ready p me (i ∷ inputs xs) (kept p me xs) t.0 ≡ None
        quiet = quiet-still p me (item i) xs none c.stays

        touches : Touches p me (item i) xs 0 []
        touches = touches-none p me (item i) xs none quiet

        same : model p me xs ≡ mid p me (item i) xs
        same = λ j. record (model p me xs) {
          mode = sym c.stays j;
          proposal = λ w s. sym (c.proposals w s) j;
          prepare = λ w s k. sym (c.prepares w s k) j;
          commit = λ w s k. bare (sym (c.commits w s k) j);
          change = λ w k. sym (c.changes w k) j;
        }

  -- ---- proposals, if the input has none

  same-values : (v s : ℕ) → first_of (proposal p me (inputs xs) v s) None ≡ proposal p me (inputs xs) v s
  same-values v s = first_of-none (proposal p me (inputs xs) v s)

  same-proposals : (v s : ℕ) → placed p (first_of (proposal p me (inputs xs) v s) None) (first_of (proposal_sig p me xs v s) None) ≡ placed p (proposal p me (inputs xs) v s) (proposal_sig p me xs v s)
  same-proposals v s = λ j. placed p (first_of-none (proposal p me (inputs xs) v s) j) (first_of-none (proposal_sig p me xs v s) j)

  -- ---- votes that do not count

  module _ (from : NodeId) (v : ℕ) (slot : Slot) (d sig : List ℕ) where
    pub prepare-nothing : (has_slot slot.0 p.slots && not (from.0 == primary p v)) ≡ false →
        ChangesNothing (Receive from (Prepare v slot d sig))
    prepare-nothing out = record {
      stays = refl;
      values = same-values;
      proposals = same-proposals;
      prepares = λ w s k.
          let b : Ballot = record { digest = d; sig = sig } in
          ap (λ (t : Bool). first_of (prepare_of p (inputs xs) w s k) (when t b)) (and_right (is_at from.0 v slot.0 w s k) _ out) ∙ first_of-none (prepare_of p (inputs xs) w s k);
      commits = λ w s k. first_of-none (commit_of p (inputs xs) w s k);
      changes = λ w k. first_of-none (change_of p (inputs xs) w k);
      leads = refl;
      silent = λ t. refl;
      hashes = refl;
      unasked = refl;
    }

    pub commit-nothing : has_slot slot.0 p.slots ≡ false → ChangesNothing (Receive from (Commit v slot d sig))
    commit-nothing out = record {
      stays = refl;
      values = same-values;
      proposals = same-proposals;
      prepares = λ w s k. first_of-none (prepare_of p (inputs xs) w s k);
      commits = λ w s k.
          let b : Ballot = record { digest = d; sig = sig } in
          ap (λ (t : Bool). first_of (commit_of p (inputs xs) w s k) (when t b)) (and_right (is_at from.0 v slot.0 w s k) _ out) ∙ first_of-none (commit_of p (inputs xs) w s k);
      changes = λ w k. first_of-none (change_of p (inputs xs) w k);
      leads = refl;
      silent = λ t. refl;
      hashes = refl;
      unasked = refl;
    }

  -- ---- a timeout in the last view

  pub timeout-nothing : passes (mode p (inputs xs)) ≡ false → ChangesNothing Timeout
  timeout-nothing last = record {
    stays = ap (λ (b : Bool). cond b (record { view = (mode p (inputs xs)).view + 1; active = false }) (mode p (inputs xs))) last;
    values = same-values;
    proposals = same-proposals;
    prepares = λ w s k. first_of-none (prepare_of p (inputs xs) w s k);
    commits = λ w s k. first_of-none (commit_of p (inputs xs) w s k);
    changes = λ w k. first_of-none (change_of p (inputs xs) w k);
    leads = ap (λ (b : Bool). cond b (DraftViewChange ((mode p (inputs xs)).view + 1) (tops (kept p me xs) p.slots) ∷ []) []) last;
    silent = λ t. refl;
    hashes = refl;
    unasked = refl;
  }

  -- ---- a NewView that starts no view

  pub new-view-nothing : (from : NodeId) (v : ℕ) (changes : List Change) (sigs : List (List ℕ)) (sig : List ℕ) →
      enters p (mode p (inputs xs)) from.0 v changes sigs ≡ false →
      ChangesNothing (Receive from (NewView v changes sigs sig))
  new-view-nothing from v vs sigs sig out = record {
    stays = ap (λ (b : Bool). cond b (record { view = v; active = true }) (mode p (inputs xs))) out;
    values = λ w s. ap (λ (b : Bool). first_of (when b (choice vs s)) (first_of (proposal p me (inputs xs) w s) None)) (never w s) ∙ same-values w s;
    proposals = λ w s.
        ap (λ (b : Bool). placed p (first_of (when b (choice vs s)) (first_of (proposal p me (inputs xs) w s) None)) (first_of (cond b (sig_for s p.slots sigs) None) (first_of (proposal_sig p me xs w s) None)))
        (never w s) ∙ same-proposals w s;
    prepares = λ w s k. first_of-none (prepare_of p (inputs xs) w s k);
    commits = λ w s k. first_of-none (commit_of p (inputs xs) w s k);
    changes = λ w k. first_of-none (change_of p (inputs xs) w k);
    leads = refl;
    silent = λ t. ap (λ (b : Bool). cond (b && not (me == primary p v)) (DraftPrepare v t (digest_of p (choice vs t.0)) ∷ []) []) out;
    hashes = ap (λ (b : Bool). cond b (value_strings p (certificates_of vs) ++ choice_strings p vs p.slots) []) out;
    unasked = refl;
  }
    where
      never : (w s : ℕ) → ((w == v) && (has_slot s p.slots && enters p (mode p (inputs xs)) from.0 v vs sigs)) ≡ false
      never w s = and_right (w == v) _ (and_right (has_slot s p.slots) _ out)
