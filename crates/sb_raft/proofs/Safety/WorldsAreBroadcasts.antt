-- A world of legal histories and valid ballots is a broadcast, and both are invariants.
use Rattle.std.proofs.Common.{◌≡◌, ℕ, List, ◌∷◌, ◌++◌, take, drop, append_assoc, refl, sym, subst, ap, ◌∙◌, inl, inr, Some}
use Rattle.iss_base.specs.Lists.{In}
use Rattle.iss_request.specs.declared.ids.Slot.{Slot}
use Rattle.iss_request.specs.declared.requests.Batch.{Batch}
use Rattle.iss_request.specs.declared.requests.Value.TheVariants.{Batch as Value_batch}
use Rattle.iss_sb.specs.declared.effects.Params.{Params}
use Rattle.iss_sb.specs.Calls.{IsGoodParams}
use Rattle.iss_sb.specs.Evidence.{Item, World, accepts, delivered}
use Rattle.iss_sb.specs.Laws.{IsBroadcast, IsSafe}
use Rattle.iss_sb.specs.Legal.{Front, IsLegal}
use Rattle.iss_sb.proofs.Legal.{accepts-front, all-correct, front_self, made-front, safe-kept}
use Rattle.iss_sb.proofs.Slots.{slot-is, slot-some}
use Rattle.iss_base.proofs.Lists.{in_right}
use Rattle.raft_wire.specs.declared.entries.Entry.{Entry}
use Rattle.raft_wire.specs.declared.messages.Message.{Message}
use Rattle.sb_raft.specs.Raft.{decided, raft, state}
use Rattle.sb_raft.proofs.Safety.VotesPrecedeAppends.{Ballots}
use Rattle.iss_sb.specs.declared.content.Content.TheVariants.{Holds}
use Rattle.sb_raft.specs.Facts.{IsOwned}
use Rattle.sb_raft.specs.Logs.{filled}
use Rattle.iss_base.specs.Lists.{nth}
use Rattle.iss_base.proofs.Lists.{some-injective}
use Rattle.sb_raft.proofs.Safety.MatchingAndCompleteness.{all_fine}
use Rattle.sb_raft.proofs.Safety.NodeHistories.{lead_at}
use Rattle.sb_raft.proofs.Safety.Invariant.{Inv}
use Rattle.sb_raft.proofs.Safety.ElectionSafety.{LeadOf, histories, mom, older, front_tail, facts, elected, later_term}
use Rattle.sb_raft.proofs.StateChanges.CommittedEntriesStay.{delivered-is, take-drop}
use Rattle.sb_raft.proofs.AcceptedBatches.LeaderAcceptedBatches.{later-plain, stands}
use Rattle.sb_raft.proofs.AcceptedBatches.LogBatchesWereCast.{first-cast}
use Rattle.sb_raft.proofs.Safety.NodesAgree.{agree, inv-of, keeps, starts}

module _ (p : Params) (w : World Message) (good : IsGoodParams raft p) (legal : IsLegal raft p w) (b : Ballots p w) where
  inv : Inv p w
  inv = inv-of p w good legal b

  -- a batch in a log was accepted by the leader of term 1, at the slot of its place
  pub batch-owned : (i : ℕ) (l : List (Item Message)) → Front l (w i) → (front : List Entry) (e : Entry) (rest : List Entry) (c : Batch) → (state p i l).log ≡ front ++ (e ∷ rest) → e.what ≡ Holds c → IsOwned p w front c
  batch-owned i l f front e rest c whole holds =
      let fine = all_fine p.setup.f (LeadOf p w) (histories p w) (facts p w inv) i (mom p i l) (older p i l) (front_tail p i l (w i) f) in
      let led = fine.good front e rest whole in
      let a = lead_at p led.leader (w led.leader) e.term (front ++ (e ∷ led.rest)) led.lead in
      elim (elected p w inv led.leader a.0 a.1 a.2) [
        | inl first ↦
            let cast = first-cast p w inv led.leader a.0 (made-front raft p led.leader a.0 (w led.leader) a.1 (legal.made led.leader)) a.1 a.2 first.term front e led.rest c a.4 holds in
            let there = accepts-front a.0 (w led.leader) (cast.slot, c) a.1 cast.taken in
            record {
              slot = cast.slot;
              place = slot-some cast.slot (nth p.slots (filled front)) cast.place;
              taken = subst (λ (z : ℕ). In {A = Slot × Batch} (cast.slot, c) (accepts (w z))) first.own there;
            }
        | inr later ↦
            let t = later_term p w inv led.leader a.0 later.0 in
            let stands_in : In e (state p led.leader a.0).log = subst (λ (z : List Entry). In e z) (sym a.4) (in_right e front (e ∷ led.rest) (inl refl)) in
            absurd (later-plain p w inv led.leader a.0 a.1 a.2 t e c stands_in (sym a.3) holds)
      ]

  -- the leader accepted what is delivered
  pub owned : (i : ℕ) (s : Slot) (c : Batch) → delivered raft p i (w i) s.0 ≡ Some (Value_batch c) → In {A = Slot × Batch} (s, c) (accepts (w p.leader.0))
  owned i s c d =
      let n = (state p i (w i)).commit in
      let log = (state p i (w i)).log in
      let dx : decided p i (w i) s.0 ≡ Some (Value_batch c) = sym (delivered-is p i (w i) s.0) ∙ d in
      let st = stands s.0 p.slots c (take n log) dx in
      let whole : log ≡ st.front ++ (st.entry ∷ (st.rest ++ drop n log)) = sym (take-drop n log) ∙ (ap (λ (z : List Entry). z ++ drop n log) st.is ∙ append_assoc st.front (st.entry ∷ st.rest) (drop n log)) in
      let own = batch-owned i (w i) (front_self (w i)) st.front st.entry (st.rest ++ drop n log) c whole st.holds in
      let same : own.slot ≡ st.slot = some-injective own.slot st.slot (sym own.place ∙ st.place) in
      subst (λ (z : Slot). In {A = Slot × Batch} (z, c) (accepts (w p.leader.0))) (same ∙ slot-is st.slot s st.same) own.taken

  is-broadcast : IsBroadcast raft p w
  is-broadcast = record {
    agreement = λ i j s x y _ _ d e. agree p w good legal b i j s x y d e;
    shared = λ i j s t c e _ _ d k. record { node = p.leader.0; correct = all-correct raft p good refl p.leader.0 good.leader; first = owned i s c d; second = owned j t e k };
    integrity = λ i s c _ _ d. owned i s c d;
  }

pub raft-safe : IsSafe raft
raft-safe = safe-kept raft Ballots (record {
  starts = λ p good. starts p;
  keeps = λ p w later good legal b move sep. keeps p w good legal later b move;
  gives = λ p w good legal b sep. is-broadcast p w good legal b;
})
