-- The step of a timeout agrees with the history. It touches no slot.
use Rattle.std.proofs.Common.{◌≡◌, ◌+◌, ◌&&◌, ◌∷◌, ◌++◌, ◌∙◌, ℕ, Bool, true, false, not, cond, List, [], None, refl, sym, ap, append-nil}
use Rattle.iss_base.proofs.Lists.{first_of-none}
use Rattle.iss_request.specs.Slots.{AreAscending}
use Rattle.iss_request.specs.declared.ids.Slot.{Slot}
use Rattle.iss_sb.specs.Evidence.{Item}
use Rattle.iss_sb.specs.declared.effects.Input.TheVariants.{Timeout}
use Rattle.iss_sb.specs.declared.effects.Params.{Params}
use Rattle.pbft_wire.specs.declared.messages.Certificate.{Certificate}
use Rattle.pbft_wire.specs.declared.messages.Message.{Message}
use Rattle.sb_pbft.specs.Makes.{Draft, DraftViewChange, has, inputs, kept, proposal_sig, ready, tops}
use Rattle.sb_pbft.specs.Pbft.{pbft}
use Rattle.sb_pbft.specs.Rules.{Mode, change_of, commit_of, cons_some, mode, passes, prepare_of, prepared, proposal}
use Rattle.sb_pbft.specs.Internal.Turns.{TurnsTo, bare, gives_up, model, placed, tops_of}
use Rattle.sb_pbft.proofs.Model.DraftsAgree.{none-said}
use Rattle.sb_pbft.proofs.Model.DeliveriesAgree.{delivers-is}
use Rattle.sb_pbft.proofs.Model.SettledAgrees.{Touches, held-is, mid}
use Rattle.sb_pbft.proofs.Model.VotesTouchOneSlot.{BringsNone, touches-none}

-- the certificates in a ViewChange
pub tops-same : (p : Params) (me : ℕ) (xs : List (Item Message)) (ss : List Slot) →
    tops_of (model p me xs).top ss ≡ tops (kept p me xs) ss
tops-same p me xs [] = refl
tops-same p me xs (s ∷ ss) = ap (λ (z : List Certificate). cons_some ((model p me xs).top s.0) z) (tops-same p me xs ss)

module _ (p : Params) (me leaf : ℕ) (xs : List (Item Message)) (ascending : AreAscending 0 p.slots) (may : passes (mode p (inputs xs)) ≡ true) where
  abbrev next : Mode
  next = record { view = (mode p (inputs xs)).view + 1; active = false }

  abbrev item : Item Message
  item = record { input = Timeout; leaf = leaf; made = pbft.makes p me xs Timeout leaf }

  mode-next : mode p (inputs (item ∷ xs)) ≡ next
  mode-next = ap (λ (b : Bool). cond b next (mode p (inputs xs))) may

  none : BringsNone p me item xs
  none = record {
    values = λ w s. first_of-none (proposal p me (inputs xs) w s);
    prepares = λ w s k. first_of-none (prepare_of p (inputs xs) w s k);
    commits = λ w s k. first_of-none (commit_of p (inputs xs) w s k);
  }

  -- no Commit is due after a timeout
  quiet : (s : ℕ) → ready p me (inputs (item ∷ xs)) (kept p me xs) s ≡ None
  quiet s = ap (λ (z : Mode). cond (z.active && not (has z.view s (kept p me xs))) (prepared p me (inputs (item ∷ xs)) z.view s) None) mode-next

  touches : Touches p me item xs 0 []
  touches = touches-none p me item xs none (λ t i. quiet t.0)

  given-up : record (model p me xs) { mode = next } ≡ mid p me item xs
  given-up = λ j. record (model p me xs) {
    mode = sym mode-next j;
    proposal = λ w s. placed p (sym (first_of-none (proposal p me (inputs xs) w s)) j) (sym (first_of-none (proposal_sig p me xs w s)) j);
    prepare = λ w s k. sym (first_of-none (prepare_of p (inputs xs) w s k)) j;
    commit = λ w s k. bare (sym (first_of-none (commit_of p (inputs xs) w s k)) j);
    change = λ w k. sym (first_of-none (change_of p (inputs xs) w k)) j;
  }

  pub timeout-turns : TurnsTo p me xs Timeout leaf (gives_up p (model p me xs))
  timeout-turns = record {
    held = given-up ∙ held-is p me item xs 0 [] ascending touches;
    drafts =
        ap (λ (z : List Certificate). DraftViewChange ((mode p (inputs xs)).view + 1) z ∷ []) (tops-same p me xs p.slots) ∙
        (sym (ap (λ (b : Bool). cond b (DraftViewChange ((mode p (inputs xs)).view + 1) (tops (kept p me xs) p.slots) ∷ []) []) may) ∙
        (sym (append-nil (cond (passes (mode p (inputs xs))) (DraftViewChange ((mode p (inputs xs)).view + 1) (tops (kept p me xs) p.slots) ∷ []) [])) ∙
        ap (λ (z : List Draft). cond (passes (mode p (inputs xs))) (DraftViewChange ((mode p (inputs xs)).view + 1) (tops (kept p me xs) p.slots) ∷ []) [] ++ z)
        (sym (none-said p me item xs p.slots (λ t i. refl) (λ t i. quiet t.0)))));
    strings = refl;
    accepted = refl;
    delivers = delivers-is p me item xs 0 [] touches;
  }
