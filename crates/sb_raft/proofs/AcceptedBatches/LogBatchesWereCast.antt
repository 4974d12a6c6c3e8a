-- The leader of term 1 accepted what its log has.
use Rattle.std.proofs.Common.{◌≡◌, ℕ, Bool, true, if◌then◌else◌, List, [], ◌∷◌, ◌++◌, sym, subst, ap, ◌∙◌, inl, inr, Option, Some, None, arith}
use Rattle.iss_base.specs.Lists.{In, nth}
use Rattle.iss_request.specs.declared.ids.Slot.{Slot}
use Rattle.iss_request.specs.declared.requests.Batch.{Batch}
use Rattle.iss_sb.specs.declared.effects.Input.{Input}
use Rattle.iss_sb.specs.declared.effects.Input.TheVariants.{Cast}
use Rattle.iss_sb.specs.declared.effects.Params.{Params}
use Rattle.iss_sb.specs.Evidence.{Item, Made, World, accepts}
use Rattle.iss_sb.specs.Legal.{AreMade, Front}
use Rattle.iss_sb.proofs.Worlds.{accepts-new, accepts-old}
use Rattle.raft_wire.specs.declared.entries.Entry.{Entry}
use Rattle.iss_sb.specs.declared.content.Content.{Content}
use Rattle.iss_sb.specs.declared.content.Content.TheVariants.{Holds}
use Rattle.raft_wire.specs.declared.messages.Message.{Message}
use Rattle.sb_raft.specs.Raft.{asks, raft, state}
use Rattle.iss_sb.specs.Calls.{is_slot}
use Rattle.sb_raft.specs.Rules.{Follower, Candidate, Leader, State, may_cast}
use Rattle.sb_raft.specs.Logs.{entry, filled}
use Rattle.sb_raft.proofs.StateChanges.StepCases.{Raise, level, higher, Handled, none, down, copy, reply, back, grant, voted, win, casts, times, alone, Next, next_cases}
use Rattle.sb_raft.proofs.StateChanges.TermVoteRoleLog.{cast-parts}
use Rattle.iss_sb.proofs.Legal.{front_self, front_trans}
use Rattle.sb_raft.proofs.Safety.NodeHistories.{origin, term_one}
use Rattle.sb_raft.proofs.Safety.Invariant.{Inv}
use Rattle.sb_raft.proofs.Safety.ElectionSafety.{later_term}
use Rattle.sb_raft.proofs.AcceptedBatches.LeaderAcceptedBatches.{cl, fl, no-role, split-last}

pub record WasCast (p : Params) (xs : List (Item Message)) (front : List Entry) (b : Batch) : Type 0 where
  pub slot : Slot
  pub place : is_slot slot.0 (nth p.slots (filled front)) ≡ true
  pub taken : In {A = Slot × Batch} (slot, b) (accepts xs)

no-split : (P : List Entry) (x : Entry) (xs : List Entry) (A : Type 0) → [] ≡ P ++ (x ∷ xs) → A
no-split [] x xs A h = absurd cc
no-split (q ∷ P) x xs A h = absurd cc

holds-is : (a b : Batch) (w : Content) → Holds a ≡ w → w ≡ Holds b → a ≡ b
holds-is a b w h k = cc

asks-is : (p : Params) (k : ℕ) (l : List (Item Message)) (c : Slot) (d : Batch) → may_cast p (state p k l) c.0 ≡ true → asks p k l (Cast c d) ≡ Some (c, d)
asks-is p k l c d h = ap (λ (z : Bool). let o : Option (Slot × Batch) = if z then Some (c, d) else None in o) h

module _ (p : Params) (w : World Message) (inv : Inv p w) where
  pub first-cast : (k : ℕ) (l : List (Item Message)) → AreMade raft p k l → Front l (w k) → (state p k l).role ≡ Leader → (state p k l).term ≡ 1 → (P : List Entry) (x : Entry) (xs : List Entry) (b : Batch) → (state p k l).log ≡ P ++ (x ∷ xs) → x.what ≡ Holds b → WasCast p l P b
  first-cast k [] m f r t P x xs b e h = no-split P x xs _ e
  first-cast k (y ∷ l) m f r t P x xs b e h = go (next_cases p k (state p k l) y.input) (first-cast k l m.1 (front_trans l (y ∷ l) (w k) (inr (front_self l)) f))
    where
      go : Next p k (state p k l) y.input (state p k (y ∷ l)) → ((state p k l).role ≡ Leader → (state p k l).term ≡ 1 → (P : List Entry) (x : Entry) (xs : List Entry) (b : Batch) → (state p k l).log ≡ P ++ (x ∷ xs) → x.what ≡ Holds b → WasCast p l P b) → WasCast p (y ∷ l) P b
      go n ih = by n.mid n.raise n.handled
        where
          old : WasCast p l P b → WasCast p (y ∷ l) P b
          old c = record { slot = c.slot; place = c.place; taken = accepts-old y l (c.slot, b) c.taken }

          same : (u : State) → Raise (state p k l) u → u.role ≡ Leader → u.term ≡ (state p k (y ∷ l)).term → u.log ≡ (state p k (y ∷ l)).log → WasCast p (y ∷ l) P b
          same u (level q) ru tu lu = old (ih (sym (ap (λ (z : State). z.role) q) ∙ ru) (sym (ap (λ (z : State). z.term) q) ∙ (tu ∙ t)) P x xs b (sym (ap (λ (z : State). z.log) q) ∙ (lu ∙ e)) h)
          same u (higher c lt q) ru tu lu = no-role u.role Follower Leader _ (ap (λ (z : State). z.role) q) ru fl

          new : (u : State) → u ≡ state p k l → (c : Slot) (d : Batch) → y.input ≡ Cast c d → may_cast p u c.0 ≡ true → u.log ≡ P → d ≡ b → WasCast p (y ∷ l) P b
          new u q c d ei mc el ed =
              let own : y.made.accepted ≡ asks p k l y.input = ap (λ (z : Made Message). z.accepted) m.0 in
              let ask : asks p k l y.input ≡ Some (c, d) = ap (λ (z : Input Message). asks p k l z) ei ∙ asks-is p k l c d (subst (λ (z : State). may_cast p z c.0 ≡ true) q mc) in
              record {
                slot = c;
                place = subst (λ (z : List Entry). is_slot c.0 (nth p.slots (filled z)) ≡ true) el (cast-parts p u c.0 mc).next;
                taken = subst (λ (z : Batch). In {A = Slot × Batch} (c, z) (accepts (y ∷ l))) ed (accepts-new y l (c, d) (own ∙ ask));
              }

          by : (u : State) → Raise (state p k l) u → Handled p k u y.input (state p k (y ∷ l)) → WasCast p (y ∷ l) P b
          by u a (none q) = same u a (sym (ap (λ (z : State). z.role) q) ∙ r) (sym (ap (λ (z : State). z.term) q)) (sym (ap (λ (z : State). z.log) q))
          by u a (down q) = no-role (state p k (y ∷ l)).role Follower Leader _ (ap (λ (z : State). z.role) q) r fl
          by u a (copy j prev pt c es ei g gm q) = no-role (state p k (y ∷ l)).role Follower Leader _ (ap (λ (z : State). z.role) q) r fl
          by u a (reply j c ei ru ne lx q) = same u a ru (sym (ap (λ (z : State). z.term) q)) (sym (ap (λ (z : State). z.log) q))
          by u a (back j c ei ru nx lx q) = same u a ru (sym (ap (λ (z : State). z.term) q)) (sym (ap (λ (z : State). z.log) q))
          by u a (grant j last lt ei g q) = same u a (sym (ap (λ (z : State). z.role) q) ∙ r) (sym (ap (λ (z : State). z.term) q)) (sym (ap (λ (z : State). z.log) q))
          by u a (voted j ei ru q) = no-role (state p k (y ∷ l)).role Candidate Leader _ (ap (λ (z : State). z.role) q ∙ ru) r cl
          by u (level aq) (win j ei ru n q) =
              let tq = ap (λ (z : State). z.term) q in
              let ta = ap (λ (z : State). z.term) aq in
              let rs = sym (ap (λ (z : State). z.role) aq) ∙ ru in
              elim (origin p k l (inr rs)) [
                | inl o ↦ no-role (state p k l).role Candidate Leader _ rs o.leads cl
                | inr o ↦ let lt = later_term p w inv k l o in absurd (omega arith)
              ]
          by u (higher c lt aq) (win j ei ru n q) = no-role u.role Follower Candidate _ (ap (λ (z : State). z.role) aq) ru (λ z. cc)
          by u (level aq) (casts c d ei mc q) =
              let split : u.log ++ entry u.term (Holds d) ∷ [] ≡ P ++ (x ∷ xs) = sym (ap (λ (z : State). z.log) q) ∙ e in
              elim (split-last u.log P (entry u.term (Holds d)) x xs split) [
                | inl o ↦ old (ih (sym (ap (λ (z : State). z.role) aq) ∙ (cast-parts p u c.0 mc).leads) (sym (ap (λ (z : State). z.term) aq) ∙ (cast-parts p u c.0 mc).first) P x o.0 b (sym (ap (λ (z : State). z.log) aq) ∙ o.1) h)
                | inr o ↦ new u aq c d ei mc o.0 (holds-is d b x.what (ap (λ (z : Entry). z.what) o.1) h)
              ]
          by u (higher c' lt aq) (casts c d ei mc q) = no-role u.role Follower Leader _ (ap (λ (z : State). z.role) aq) (cast-parts p u c.0 mc).leads fl
          by u a (times ei ru q) = no-role (state p k (y ∷ l)).role Candidate Leader _ (ap (λ (z : State). z.role) q) r cl
          by u (level aq) (alone ei ru n q) =
              let tq = ap (λ (z : State). z.term) q in
              let ta = ap (λ (z : State). z.term) aq in
              let o = term_one p k l in absurd (omega arith)
          by u (higher c lt aq) (alone ei ru n q) =
              let tq = ap (λ (z : State). z.term) q in
              let ta = ap (λ (z : State). z.term) aq in
              let o = term_one p k l in absurd (omega arith)
