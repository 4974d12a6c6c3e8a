-- The steps of a Prepare and of a Commit agree with the history.
use Rattle.std.proofs.Common.{◌≡◌, ◌≢◌, ◌∷◌, ◌∙◌, ℕ, true, false, List, [], Option, Some, None, refl, sym, ap, inl, inr}
use Rattle.iss_base.specs.Lists.{In, first_of}
use Rattle.iss_base.proofs.Lists.{first_of-none}
use Rattle.iss_request.specs.Slots.{AreAscending}
use Rattle.iss_request.specs.declared.ids.NodeId.{NodeId}
use Rattle.iss_request.specs.declared.ids.Slot.{Slot}
use Rattle.iss_sb.specs.Calls.{has_slot}
use Rattle.iss_sb.specs.Evidence.{Item, Made}
use Rattle.iss_sb.specs.declared.effects.Input.TheVariants.{Receive}
use Rattle.iss_sb.specs.declared.effects.Params.{Params}
use Rattle.iss_sb.proofs.Slots.{has_slot-In}
use Rattle.pbft_wire.specs.declared.messages.Message.{Message}
use Rattle.pbft_wire.specs.Signed.{Commit, Prepare}
use Rattle.sb_pbft.specs.Makes.{inputs, proposal_sig}
use Rattle.sb_pbft.specs.Pbft.{pbft}
use Rattle.sb_pbft.specs.Rules.{Ballot, change_of, commit_in, commit_of, prepare_in, prepare_of, proposal}
use Rattle.sb_pbft.specs.Internal.Turns.{Held, TurnsTo, and_commit, and_prepare, at_slots, bare, drafts_all, model, placed}
use Rattle.sb_pbft.proofs.Model.DraftsAgree.{slot-said}
use Rattle.sb_pbft.proofs.Model.DeliveriesAgree.{settles}
use Rattle.sb_pbft.proofs.Model.SettledAgrees.{mid}
use Rattle.sb_pbft.proofs.Model.VotesTouchOneSlot.{commit-touches, prepare-touches}

bare-first : (a b : Option Ballot) → first_of (bare a) (bare b) ≡ bare (first_of a b)
bare-first None b = refl
bare-first (Some x) b = refl

-- the other slots are not affected
pub not-other : (slot u : Slot) → u.0 ≢ slot.0 → (w : Slot) → In w (slot ∷ []) → w.0 ≡ u.0 → ⊥
not-other slot u off w (inl q) e = off (sym e ∙ ap (λ (z : Slot). z.0) q)
not-other slot u off w (inr j) e = absurd j

module _ (p : Params) (me : ℕ) (from : NodeId) (v : ℕ) (slot : Slot) (d sig : List ℕ) (leaf : ℕ) (xs : List (Item Message)) (ascending : AreAscending 0 p.slots) (inside : has_slot slot.0 p.slots ≡ true) where
  commit-mid : (made : Made Message) → and_commit p (model p me xs) (Receive from (Commit v slot d sig)) ≡ mid p me (record { input = Receive from (Commit v slot d sig); leaf = leaf; made = made }) xs
  commit-mid made = λ j. record (model p me xs) {
    proposal = λ w s. placed p (sym (first_of-none (proposal p me (inputs xs) w s)) j) (sym (first_of-none (proposal_sig p me xs w s)) j);
    prepare = λ w s k. sym (first_of-none (prepare_of p (inputs xs) w s k)) j;
    commit = λ w s k. bare-first (commit_of p (inputs xs) w s k) (commit_in p (Receive from (Commit v slot d sig)) w s k) j;
    change = λ w k. sym (first_of-none (change_of p (inputs xs) w k)) j;
  }

  prepare-mid : (made : Made Message) → and_prepare p (model p me xs) (Receive from (Prepare v slot d sig)) ≡ mid p me (record { input = Receive from (Prepare v slot d sig); leaf = leaf; made = made }) xs
  prepare-mid made = λ j. record (model p me xs) {
    proposal = λ w s. placed p (sym (first_of-none (proposal p me (inputs xs) w s)) j) (sym (first_of-none (proposal_sig p me xs w s)) j);
    prepare = λ w s k. first_of (prepare_of p (inputs xs) w s k) (prepare_in p (Receive from (Prepare v slot d sig)) w s k);
    commit = λ w s k. bare (sym (first_of-none (commit_of p (inputs xs) w s k)) j);
    change = λ w k. sym (first_of-none (change_of p (inputs xs) w k)) j;
  }

  -- if the slot is in the segment
  pub commit-turns : TurnsTo p me xs (Receive from (Commit v slot d sig)) leaf (at_slots p (and_commit p (model p me xs) (Receive from (Commit v slot d sig))) false v (slot ∷ []))
  commit-turns =
      let made = pbft.makes p me xs (Receive from (Commit v slot d sig)) leaf in
      let x : Item Message = record { input = Receive from (Commit v slot d sig); leaf = leaf; made = made } in
      let t = commit-touches p me from v slot d sig leaf made xs inside in
      let s = settles p me x xs v (slot ∷ []) (and_commit p (model p me xs) (Receive from (Commit v slot d sig))) ascending t (commit-mid made) in
      record {
        held = s.0;
        drafts = ap (λ (z : Held). drafts_all p z false v (slot ∷ [])) (commit-mid made) ∙
            slot-said p me x xs v slot ascending (has_slot-In slot p.slots inside) (λ u i. refl) (λ u i off. t.quiet u i (not-other slot u off));
        strings = refl;
        accepted = refl;
        delivers = s.1;
      }

  pub prepare-turns : TurnsTo p me xs (Receive from (Prepare v slot d sig)) leaf (at_slots p (and_prepare p (model p me xs) (Receive from (Prepare v slot d sig))) false v (slot ∷ []))
  prepare-turns =
      let made = pbft.makes p me xs (Receive from (Prepare v slot d sig)) leaf in
      let x : Item Message = record { input = Receive from (Prepare v slot d sig); leaf = leaf; made = made } in
      let t = prepare-touches p me from v slot d sig leaf made xs inside in
      let s = settles p me x xs v (slot ∷ []) (and_prepare p (model p me xs) (Receive from (Prepare v slot d sig))) ascending t (prepare-mid made) in
      record {
        held = s.0;
        drafts = ap (λ (z : Held). drafts_all p z false v (slot ∷ [])) (prepare-mid made) ∙
            slot-said p me x xs v slot ascending (has_slot-In slot p.slots inside) (λ u i. refl) (λ u i off. t.quiet u i (not-other slot u off));
        strings = refl;
        accepted = refl;
        delivers = s.1;
      }
