-- Agreement, for legal histories and valid ballots.
use Rattle.std.proofs.Common.{◌≡◌, ℕ, List, ◌∷◌, sym, subst, ap, ◌∙◌, inl, inr, Some, true≢false}
use Rattle.iss_base.specs.Lists.{In}
use Rattle.iss_request.specs.declared.requests.Value.{Value}
use Rattle.iss_sb.specs.declared.effects.Params.{Params}
use Rattle.iss_sb.specs.declared.effects.To.{To}
use Rattle.iss_sb.specs.Calls.{IsGoodParams}
use Rattle.iss_sb.specs.Evidence.{Item, Made, World, IsSent, Move, delivered, empty_world}
use Rattle.iss_sb.specs.Legal.{IsLegal, Front}
use Rattle.raft_wire.specs.declared.messages.Message.{Message}
use Rattle.sb_raft.specs.Raft.{decided, raft, state}
use Rattle.sb_raft.proofs.Safety.VotesPrecedeAppends.{Ballots}
use Rattle.iss_sb.proofs.Legal.{front_self, have-come, made-at}
use Rattle.sb_raft.proofs.Safety.Invariant.{Inv, MaySend}
use Rattle.sb_raft.proofs.StateChanges.NextIndexIsInLog.{bounded}
use Rattle.sb_raft.proofs.Safety.MessagesHaveCauses.{sends-may, sent-In}
use Rattle.sb_raft.proofs.Safety.BallotsArePreserved.{ballots-kept}
use Rattle.sb_raft.proofs.Safety.CommittedLogsAgree.{committed_agree}
use Rattle.sb_raft.proofs.StateChanges.CommittedEntriesStay.{delivered-is, value-front}

module _ (p : Params) (w : World Message) (good : IsGoodParams raft p) (legal : IsLegal raft p w) where
  justified : (j k : ℕ) (m : Message) → IsSent w j k m → (l : List (Item Message)) × Front l (w j) × MaySend p j l k m
  justified j k m h =
      let a = made-at raft p j h.item (w j) (legal.made j) h.taken in
      let sends = ap (λ (z : Made Message). z.sends) a.made in
      let sent = subst (λ (z : List (To × Message)). In {A = To × Message} (h.to, m) z) sends h.sent in
      (h.item ∷ a.before, a.front, sent-In _ _ h.to k m (sends-may p j good.nodes good.majority (state p j a.before) h.item.input (bounded p j a.before)) h.reaches sent)

  pub inv-of : Ballots p w → Inv p w
  inv-of b = record { nodes = good.nodes; quorum = good.majority; legal = λ k. have-come raft p w k (w k) (legal.came k); justified = justified; ballots = b }

  pub keeps : (later : World Message) → Ballots p w → Move raft p w later → Ballots p later
  keeps later b move = ballots-kept p w later (inv-of b) move

  module _ (b : Ballots p w) where
    some-only : (x y : Value) → Some x ≡ Some y → x ≡ y
    some-only x y h = cc

    pub agree : (i j s : ℕ) (x y : Value) → delivered raft p i (w i) s ≡ Some x → delivered raft p j (w j) s ≡ Some y → x ≡ y
    agree i j s x y d e =
        let dx : decided p i (w i) s ≡ Some x = sym (delivered-is p i (w i) s) ∙ d in
        let dy : decided p j (w j) s ≡ Some y = sym (delivered-is p j (w j) s) ∙ e in
        elim (committed_agree p w (inv-of b) i j (w i) (w j) (front_self (w i)) (front_self (w j))) [
          | inl f ↦ some-only x y (sym (value-front s p.slots _ _ x f dx) ∙ dy)
          | inr f ↦ some-only x y (sym dx ∙ value-front s p.slots _ _ y f dy)
        ]

pub starts : (p : Params) → Ballots p empty_world
starts p j a f r k m ne = absurd (true≢false (sym m ∙ ap (λ (z : List (Item Message)). (state p j z).granted k) f))
