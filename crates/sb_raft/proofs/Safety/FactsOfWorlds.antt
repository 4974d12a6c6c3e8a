-- The facts behind agreement, for each reachable world.
use Rattle.std.proofs.Common.{◌≡◌, ℕ, zero, suc, List, [], ◌∷◌, ◌++◌, length, take, drop, append_assoc, refl, sym, subst, ap, ◌∙◌, inl, inr, Some, arith}
use Rattle.iss_request.specs.declared.ids.Slot.{Slot}
use Rattle.iss_request.specs.declared.requests.Batch.{Batch}
use Rattle.iss_sb.specs.declared.effects.Input.{Input}
use Rattle.iss_sb.specs.declared.effects.Input.TheVariants.{Cast, Receive, Timeout}
use Rattle.iss_sb.specs.declared.effects.Params.{Params}
use Rattle.iss_sb.specs.Calls.{IsGoodParams}
use Rattle.iss_sb.specs.Evidence.{Item, Made, World, IsReached}
use Rattle.iss_sb.specs.Legal.{Front, IsLegal}
use Rattle.iss_sb.proofs.Legal.{all-correct, front_trans, front_self, legal-reached, made-front, reached-keeps}
use Rattle.raft_wire.specs.declared.entries.Entry.{Entry}
use Rattle.raft_wire.specs.declared.messages.Message.{Message}
use Rattle.sb_raft.specs.Facts.{AreAgreed, AreByFirst, AreKept, AreMatching, AreFromLeader, HaveOneLeader, HaveSharedAcceptor, IsByFirst, Leads}
use Rattle.sb_raft.specs.Logs.{last_term}
use Rattle.sb_raft.specs.Raft.{asks, raft, state}
use Rattle.sb_raft.specs.Rules.{may_cast}
use Rattle.sb_raft.proofs.Safety.NodesAgree.{agree, inv-of, keeps, starts}
use Rattle.sb_raft.proofs.Safety.VotesPrecedeAppends.{Ballots}
use Rattle.sb_raft.proofs.Safety.CommittedLogsAgree.{committed_kept, good_at, take_long, take_some}
use Rattle.sb_raft.proofs.Safety.MatchingAndCompleteness.{matching}
use Rattle.sb_raft.proofs.StateChanges.CommittedEntriesStay.{room, take-drop}
use Rattle.sb_raft.proofs.StateChanges.TermVoteRoleLog.{cast-parts}
use Rattle.sb_raft.proofs.Safety.ElectionSafety.{LeadOf, elected, facts, histories, later_term, one_lead, term_last}
use Rattle.sb_raft.proofs.Safety.NodeHistories.{lead_front, lead_here}
use Rattle.sb_raft.proofs.Safety.Invariant.{Inv}
use Rattle.sb_raft.proofs.ModuleLaws.StepsAreLawful.{some-only}
use Rattle.sb_raft.proofs.Safety.LogPrefixes.{Prefix}
use Rattle.sb_raft.proofs.Safety.WorldsAreBroadcasts.{batch-owned, owned}

ballots-reached : (p : Params) (w : World Message) → IsGoodParams raft p → IsReached raft p w → Ballots p w
ballots-reached p w good reached = reached-keeps raft p (Ballots p) (starts p) (λ w later legal b move. keeps p w good legal later b move) w reached

module _ (p : Params) (w : World Message) (good : IsGoodParams raft p) (reached : IsReached raft p w) where
  legal : IsLegal raft p w
  legal = legal-reached raft p w reached

  ballots : Ballots p w
  ballots = ballots-reached p w good reached

  inv : Inv p w
  inv = inv-of p w good legal ballots

  led-in : (i t : ℕ) (a : List (Item Message)) → Leads p w i a t → LeadOf p w t i (state p i a).log
  led-in i t a h = subst (λ (z : ℕ). LeadOf p w z i (state p i a).log) h.term (lead_front p i a (w i) (state p i a).term (state p i a).log h.moment (lead_here p i a h.leads))

  pub one-leader : HaveOneLeader p w
  one-leader i j t a b h g = one_lead p w inv t i j (state p i a).log (state p j b).log (led-in i t a h) (led-in j t b g)

  -- ---- Logs

  split-at : (k : ℕ) (log P : List Entry) (x : Entry) → take k log ≡ P ++ (x ∷ []) → log ≡ P ++ (x ∷ drop k log)
  split-at k log P x e = sym (take-drop k log) ∙ (ap (λ (z : List Entry). z ++ drop k log) e ∙ append_assoc P (x ∷ []) (drop k log))

  one-longer : (P : List Entry) (x : Entry) → length (P ++ (x ∷ [])) ≡ suc (length P)
  one-longer [] x = refl
  one-longer (y ∷ P) x = ap suc (one-longer P x)

  pub logs-match : AreMatching p w
  logs-match i j zero a b f g la lb e = refl
  logs-match i j (suc k) a b f g la lb e =
      let s = take_some (suc k) (state p i a).log (omega arith) la in
      let t = take_some (suc k) (state p j b).log (omega arith) lb in
      let ls : length (take (suc k) (state p i a).log) ≡ suc (length s.0) = ap (λ (z : List Entry). length z) s.2 ∙ one-longer s.0 s.1 in
      let lt : length (take (suc k) (state p j b).log) ≡ suc (length t.0) = ap (λ (z : List Entry). length z) t.2 ∙ one-longer t.0 t.1 in
      let ka = take_long (suc k) (state p i a).log la in
      let kb = take_long (suc k) (state p j b).log lb in
      let long : length s.0 ≡ length t.0 = omega (arith, ls, lt, ka, kb) in
      let terms : s.1.term ≡ t.1.term = sym (term_last p w inv s.0 s.1) ∙ (sym (ap last_term s.2) ∙ (e ∙ (ap last_term t.2 ∙ term_last p w inv t.0 t.1))) in
      let first = good_at p w inv i a f s.0 s.1 _ (split-at (suc k) (state p i a).log s.0 s.1 s.2) in
      let second = good_at p w inv j b g t.0 t.1 _ (split-at (suc k) (state p j b).log t.0 t.1 t.2) in
      let m = matching p.setup.f (LeadOf p w) (histories p w) (facts p w inv) s.0 t.0 s.1 t.1 first second long terms in
      s.2 ∙ (ap (λ (z : List Entry). z ++ (s.1 ∷ [])) m.0 ∙ ap (λ (z : Entry). t.0 ++ (z ∷ [])) m.1) ∙ sym t.2

  pub commits-kept : AreKept p w
  commits-kept i j t a b f h later =
      let k = committed_kept p w inv i j a t (state p j b).log f (led-in j t b h) later in
      let long = take_long (state p i a).commit (state p i a).log (room p i a) in
      cut (state p i a).commit (take (state p i a).commit (state p i a).log) (state p j b).log long k
    where
      cut : (c : ℕ) (C m : List Entry) → length C ≡ c → Prefix C m → C ≡ take c m
      cut c [] m e k = subst (λ (z : ℕ). [] ≡ take z m) e refl
      cut c (x ∷ C) [] e k = absurd k
      cut c (x ∷ C) (y ∷ m) e k = subst (λ (z : ℕ). x ∷ C ≡ take z (y ∷ m)) e (let r = cut (length C) C m refl k.1 in let q = k.0 in cc)

  -- ---- Batches

  pub by-first : AreByFirst p w
  by-first = record {
    accepted = λ i x before a f e.
        let made = made-front raft p i (x ∷ before) (w i) f (legal.made i) in
        let asked : asks p i before x.input ≡ Some a = sym (ap (λ (z : Made Message). z.accepted) made.0) ∙ e in
        let fb = front_trans before (x ∷ before) (w i) (inr (front_self before)) f in
        asker i x.input before a fb asked;
    owned = λ i a front e rest b f log holds. batch-owned p w good legal ballots i a f front e rest b log holds;
  }
    where
      asker : (i : ℕ) (input : Input Message) (before : List (Item Message)) (a : Slot × Batch) → Front before (w i) → asks p i before input ≡ Some a → IsByFirst p i before
      asker i (Cast slot batch) before a f h =
          let t = some-only (may_cast p (state p i before) slot.0) (slot, batch) a h in
          let c = cast-parts p (state p i before) slot.0 t.0 in
          let one = c.first in
          elim (elected p w inv i before f c.leads) [
            | inl first ↦ record { own = first.own; leads = c.leads; term = c.first }
            | inr later ↦ let l = later_term p w inv i before later.0 in absurd (omega (arith, l, one))
          ]
      asker i (Receive from msg) before a f h = absurd cc
      asker i Timeout before a f h = absurd cc

  -- ---- Deliveries

  pub agreed : AreAgreed p w
  agreed i j s x y d e = agree p w good legal ballots i j s x y d e

  pub from-leader : AreFromLeader p w
  from-leader i s b d = owned p w good legal ballots i s b d

  pub shared-acceptor : HaveSharedAcceptor p w
  shared-acceptor i j s t b c d e = record { node = p.leader.0; correct = all-correct raft p good refl p.leader.0 good.leader; first = from-leader i s b d; second = from-leader j t c e }
