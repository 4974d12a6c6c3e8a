-- The step of a ViewChange agrees with the history. It touches no slot.
use Rattle.std.proofs.Common.{◌≡◌, ◌∷◌, ◌++◌, ◌∙◌, ℕ, cond, List, [], None, refl, sym, ap, append-nil}
use Rattle.iss_base.specs.Lists.{In, first_of}
use Rattle.iss_base.proofs.Lists.{first_of-none}
use Rattle.iss_request.specs.Slots.{AreAscending}
use Rattle.iss_request.specs.declared.ids.NodeId.{NodeId}
use Rattle.iss_request.specs.declared.ids.Slot.{Slot}
use Rattle.iss_sb.specs.Evidence.{Item}
use Rattle.iss_sb.specs.declared.effects.Input.TheVariants.{Receive}
use Rattle.iss_sb.specs.declared.effects.Params.{Params}
use Rattle.pbft_wire.specs.declared.messages.Certificate.{Certificate}
use Rattle.pbft_wire.specs.declared.messages.Message.{Message}
use Rattle.pbft_wire.specs.Signed.{ViewChange}
use Rattle.sb_pbft.specs.Makes.{Draft, DraftNewView, inputs, kept, proposal_sig, ready}
use Rattle.sb_pbft.specs.Pbft.{pbft}
use Rattle.sb_pbft.specs.Rules.{change_in, change_of, changes, commit_of, completes, prepare_of, proposal}
use Rattle.sb_pbft.specs.Internal.Turns.{TurnsTo, and_change, bare, changed, model, placed}
use Rattle.sb_pbft.proofs.Model.DraftsAgree.{none-said}
use Rattle.sb_pbft.proofs.Model.DeliveriesAgree.{delivers-is}
use Rattle.sb_pbft.proofs.Model.SettledAgrees.{Touches, held-is, mid}
use Rattle.sb_pbft.proofs.Model.VotesTouchOneSlot.{BringsNone, quiet-still, touches-none}
use Rattle.sb_pbft.proofs.History.ViewsGrow.{Said}

module _ (p : Params) (me : ℕ) (from : NodeId) (v : ℕ) (cs : List Certificate) (sig : List ℕ) (leaf : ℕ) (xs : List (Item Message)) (ascending : AreAscending 0 p.slots) where
  abbrev said : Said
  said = Receive from (ViewChange v cs sig)

  abbrev item : Item Message
  item = record { input = said; leaf = leaf; made = pbft.makes p me xs said leaf }

  none : BringsNone p me item xs
  none = record {
    values = λ w s. first_of-none (proposal p me (inputs xs) w s);
    prepares = λ w s k. first_of-none (prepare_of p (inputs xs) w s k);
    commits = λ w s k. first_of-none (commit_of p (inputs xs) w s k);
  }

  quiet : (t : Slot) → In t p.slots → ready p me (said ∷ inputs xs) (kept p me xs) t.0 ≡ None
  quiet = quiet-still p me item xs none refl

  touches : Touches p me item xs 0 []
  touches = touches-none p me item xs none quiet

  with-change : and_change p (model p me xs) said ≡ mid p me item xs
  with-change = λ j. record (model p me xs) {
    proposal = λ w s. placed p (sym (first_of-none (proposal p me (inputs xs) w s)) j) (sym (first_of-none (proposal_sig p me xs w s)) j);
    prepare = λ w s k. sym (first_of-none (prepare_of p (inputs xs) w s k)) j;
    commit = λ w s k. bare (sym (first_of-none (commit_of p (inputs xs) w s k)) j);
    change = λ w k. first_of (change_of p (inputs xs) w k) (change_in p said w k);
  }

  abbrev starts : List Draft
  starts = cond (completes p me (inputs xs) said v) (DraftNewView v (changes p (said ∷ inputs xs) v) ∷ []) []

  pub change-turns : TurnsTo p me xs said leaf (changed p me (model p me xs) (and_change p (model p me xs) said) from v cs)
  change-turns = record {
    held = with-change ∙ held-is p me item xs 0 [] ascending touches;
    drafts = sym (append-nil starts) ∙ ap (λ (z : List Draft). starts ++ z) (sym (none-said p me item xs p.slots (λ t i. refl) quiet));
    strings = refl;
    accepted = refl;
    delivers = delivers-is p me item xs 0 [] touches;
  }
