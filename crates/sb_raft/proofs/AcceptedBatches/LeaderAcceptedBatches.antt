-- Each batch in a log was accepted by the leader of term 1, at the slot of its place.
use Rattle.std.proofs.Common.{◌≡◌, ℕ, zero, suc, ◌<◌, ◌≤◌, ◌==◌, Bool, true, false, cond, if◌then◌else◌, List, [], ◌∷◌, ◌++◌, length, refl, sym, subst, ap, ◌∙◌, ◌⊎◌, inl, inr, Some, arith}
use Rattle.std.proofs.lemmas.Bool.{eqb-true}
use Rattle.iss_base.specs.Lists.{In, nth}
use Rattle.iss_request.specs.declared.ids.Slot.{Slot}
use Rattle.iss_request.specs.declared.requests.Batch.{Batch}
use Rattle.iss_request.specs.declared.requests.Value.TheVariants.{Nil as Value_nil, Batch as Value_batch}
use Rattle.iss_sb.specs.declared.effects.Params.{Params}
use Rattle.iss_sb.specs.Evidence.{Item, World}
use Rattle.iss_base.proofs.Lists.{in_append}
use Rattle.raft_wire.specs.declared.entries.Entry.{Entry}
use Rattle.iss_sb.specs.declared.content.Content.{Content}
use Rattle.iss_sb.specs.declared.content.Content.TheVariants.{Nil, Holds, Mark}
use Rattle.raft_wire.specs.declared.messages.Message.{Message}
use Rattle.iss_sb.specs.Paired.{value_with}
use Rattle.sb_raft.specs.Raft.{state}
use Rattle.sb_raft.specs.Rules.{Role, Follower, Candidate, Leader, State, candidate, filling}
use Rattle.sb_raft.specs.Logs.{content, contents, filled, nils}
use Rattle.iss_sb.specs.Legal.{Front}
use Rattle.sb_raft.proofs.Safety.MatchingAndCompleteness.{all_fine}
use Rattle.sb_raft.proofs.StateChanges.StepCases.{Raise, level, higher, Handled, none, down, copy, reply, back, grant, voted, win, casts, times, alone, Next, next_cases}
use Rattle.sb_raft.proofs.StateChanges.TermVoteRoleLog.{cast-parts}
use Rattle.sb_raft.proofs.Safety.NodeHistories.{CandIn, origin}
use Rattle.iss_sb.proofs.Legal.{front_self, front_trans}
use Rattle.sb_raft.proofs.Safety.Invariant.{Inv}
use Rattle.sb_raft.proofs.Safety.ElectionSafety.{LeadOf, histories, mom, older, front_tail, facts}

-- ---- The place of a value

pub record Stands (s : ℕ) (slots : List Slot) (b : Batch) (log : List Entry) : Type 0 where
  pub front : List Entry
  pub entry : Entry
  pub rest : List Entry
  pub is : log ≡ front ++ (entry ∷ rest)
  pub holds : entry.what ≡ Holds b
  pub slot : Slot
  pub place : nth slots (filled front) ≡ Some slot
  pub same : slot.0 ≡ s

batch-is : (a b : Batch) → Some (Value_batch a) ≡ Some (Value_batch b) → a ≡ b
batch-is a b h = cc

no-nil : (b : Batch) (A : Type 0) → Some Value_nil ≡ Some (Value_batch b) → A
no-nil b A h = absurd cc

pub stands : (s : ℕ) (slots : List Slot) (b : Batch) (log : List Entry) → value_with s slots (contents log) ≡ Some (Value_batch b) → Stands s slots b log
stands s [] b [] h = absurd cc
stands s (t ∷ ts) b [] h = absurd cc
stands s slots b (e ∷ es) h = go e.what refl slots (λ ts k. stands s ts b es k) h
  where
    go : (w : Content) → e.what ≡ w → (slots : List Slot) → ((ts : List Slot) → value_with s ts (contents es) ≡ Some (Value_batch b) → Stands s ts b es) → value_with s slots (content w ++ contents es) ≡ Some (Value_batch b) → Stands s slots b (e ∷ es)
    go Mark q slots rec h =
        let r = rec slots h in
        record { front = e ∷ r.front; entry = r.entry; rest = r.rest; is = ap (λ (z : List Entry). e ∷ z) r.is; holds = r.holds; slot = r.slot; place = subst (λ (z : Content). nth slots (length (content z ++ contents r.front)) ≡ Some r.slot) (sym q) r.place; same = r.same }
    go Nil q [] rec h = absurd cc
    go Nil q (t ∷ ts) rec h = by (t.0 == s) h
      where
        by : (c : Bool) → (if c then Some Value_nil else value_with s ts (contents es)) ≡ Some (Value_batch b) → Stands s (t ∷ ts) b (e ∷ es)
        by true h = no-nil b _ h
        by false h =
            let r = rec ts h in
            record { front = e ∷ r.front; entry = r.entry; rest = r.rest; is = ap (λ (z : List Entry). e ∷ z) r.is; holds = r.holds; slot = r.slot; place = subst (λ (z : Content). nth (t ∷ ts) (length (content z ++ contents r.front)) ≡ Some r.slot) (sym q) r.place; same = r.same }
    go (Holds a) q [] rec h = absurd cc
    go (Holds a) q (t ∷ ts) rec h = by (t.0 == s) refl h
      where
        by : (c : Bool) → (t.0 == s) ≡ c → (if c then Some (Value_batch a) else value_with s ts (contents es)) ≡ Some (Value_batch b) → Stands s (t ∷ ts) b (e ∷ es)
        by true k h = record { front = []; entry = e; rest = es; is = refl; holds = q ∙ ap (λ (z : Batch). Holds z) (batch-is a b h); slot = t; place = refl; same = eqb-true t.0 s k }
        by false k h =
            let r = rec ts h in
            record { front = e ∷ r.front; entry = r.entry; rest = r.rest; is = ap (λ (z : List Entry). e ∷ z) r.is; holds = r.holds; slot = r.slot; place = subst (λ (z : Content). nth (t ∷ ts) (length (content z ++ contents r.front)) ≡ Some r.slot) (sym q) r.place; same = r.same }

-- ---- The entries that a new leader adds have no batch

no-batch : (w : Content) (b : Batch) (A : Type 0) → (w ≡ Nil) ⊎ (w ≡ Mark) → w ≡ Holds b → A
no-batch w b A (inl e) h = absurd cc
no-batch w b A (inr e) h = absurd cc

nils-plain : (t n : ℕ) (x : Entry) → In x (nils t n) → (x.what ≡ Nil) ⊎ (x.what ≡ Mark)
nils-plain t zero x h = absurd h
nils-plain t (suc n) x (inl e) = inl (ap (λ (z : Entry). z.what) e)
nils-plain t (suc n) x (inr h) = nils-plain t n x h

filling-plain : (p : Params) (s : State) (x : Entry) → In x (filling p s) → (x.what ≡ Nil) ⊎ (x.what ≡ Mark)
filling-plain p s x (inl e) = inr (ap (λ (z : Entry). z.what) e)
filling-plain p s x (inr h) = nils-plain s.term _ x h

pub no-role : (r a b : Role) (A : Type 0) → r ≡ a → r ≡ b → (a ≡ b → ⊥) → A
no-role r a b A h k n = absurd (n (sym h ∙ k))

pub fl : Follower ≡ Leader → ⊥
fl h = cc

pub cl : Candidate ≡ Leader → ⊥
cl h = cc

fc : Follower ≡ Candidate → ⊥
fc h = cc

pub split-last : {A : Type 0} (a P : List A) (e x : A) (xs : List A) → a ++ e ∷ [] ≡ P ++ (x ∷ xs) → ((ys : List A) × (a ≡ P ++ (x ∷ ys))) ⊎ ((a ≡ P) × (e ≡ x))
split-last [] [] e x xs h = inr (refl, cc)
split-last [] (q ∷ []) e x xs h = absurd cc
split-last [] (q ∷ (r ∷ P)) e x xs h = absurd cc
split-last (y ∷ a) [] e x xs h = inl (a, let q : y ≡ x = cc in cc)
split-last (y ∷ a) (q ∷ P) e x xs h =
    let t : a ++ e ∷ [] ≡ P ++ (x ∷ xs) = cc in
    let k : y ≡ q = cc in
    elim (split-last a P e x xs t) [
      | inl r ↦ inl (r.0, let f = r.1 in cc)
      | inr r ↦ inr (let f = r.0 in cc, r.1)
    ]

cand-here : (p : Params) (k : ℕ) (l : List (Item Message)) → (state p k l).role ≡ Candidate → CandIn p k l (state p k l).term (state p k l).log
cand-here p k [] r = no (k == p.leader.0) r
  where
    no : (b : Bool) → cond b Leader Follower ≡ Candidate → ⊥
    no true h = cc
    no false h = cc
cand-here p k (i ∷ l) r = inl (r, refl, refl)

module _ (p : Params) (w : World Message) (inv : Inv p w) where
  upto : (k : ℕ) (l : List (Item Message)) → Front l (w k) → (x : Entry) → In x (state p k l).log → x.term ≤ (state p k l).term
  upto k l f = (all_fine p.setup.f (LeadOf p w) (histories p w) (facts p w inv) k (mom p k l) (older p k l) (front_tail p k l (w k) f)).upto

  -- a candidate has no entry of its term
  cand-low : (k : ℕ) (l : List (Item Message)) → Front l (w k) → (state p k l).role ≡ Candidate → (x : Entry) → In x (state p k l).log → x.term < (state p k l).term
  cand-low k l f r x i = elim (origin p k l (inr r)) [
    | inl a ↦ no-role (state p k l).role Candidate Leader _ r a.leads cl
    | inr a ↦
        let e = a.cands (state p k l).log (cand-here p k l r) in
        let u = upto k a.before (front_trans a.before l (w k) a.front f) x (subst (λ (z : List Entry). In x z) e i) in
        let low = a.low in
        omega arith
  ]

  -- a leader of a later term adds no batch
  pub later-plain : (k : ℕ) (l : List (Item Message)) → Front l (w k) → (state p k l).role ≡ Leader → 1 < (state p k l).term → (x : Entry) (b : Batch) → In x (state p k l).log → x.term ≡ (state p k l).term → x.what ≡ Holds b → ⊥
  later-plain k [] f r t x b i e h = i
  later-plain k (y ∷ l) f r t x b i e h = go (next_cases p k (state p k l) y.input) (later-plain k l fl')
    where
      fl' : Front l (w k)
      fl' = front_trans l (y ∷ l) (w k) (inr (front_self l)) f

      go : Next p k (state p k l) y.input (state p k (y ∷ l)) → ((state p k l).role ≡ Leader → 1 < (state p k l).term → (x : Entry) (b : Batch) → In x (state p k l).log → x.term ≡ (state p k l).term → x.what ≡ Holds b → ⊥) → ⊥
      go n ih = by n.mid n.raise n.handled
        where
          same : (u : State) → Raise (state p k l) u → u.role ≡ Leader → u.term ≡ (state p k (y ∷ l)).term → u.log ≡ (state p k (y ∷ l)).log → ⊥
          same u (level q) ru tu lu =
              let tq = ap (λ (z : State). z.term) q in
              ih (sym (ap (λ (z : State). z.role) q) ∙ ru) (omega arith) x b (subst (λ (z : List Entry). In x z) (sym (sym (ap (λ (z : State). z.log) q) ∙ lu)) i) (omega arith) h
          same u (higher c lt q) ru tu lu = no-role u.role Follower Leader ⊥ (ap (λ (z : State). z.role) q) ru fl

          by : (u : State) → Raise (state p k l) u → Handled p k u y.input (state p k (y ∷ l)) → ⊥
          by u a (none q) = same u a (sym (ap (λ (z : State). z.role) q) ∙ r) (sym (ap (λ (z : State). z.term) q)) (sym (ap (λ (z : State). z.log) q))
          by u a (down q) = no-role (state p k (y ∷ l)).role Follower Leader ⊥ (ap (λ (z : State). z.role) q) r fl
          by u a (copy j prev pt c es ei g gm q) = no-role (state p k (y ∷ l)).role Follower Leader ⊥ (ap (λ (z : State). z.role) q) r fl
          by u a (reply j c ei ru ne lx q) = same u a ru (sym (ap (λ (z : State). z.term) q)) (sym (ap (λ (z : State). z.log) q))
          by u a (back j c ei ru nx lx q) = same u a ru (sym (ap (λ (z : State). z.term) q)) (sym (ap (λ (z : State). z.log) q))
          by u a (grant j last lt ei g q) = same u a (sym (ap (λ (z : State). z.role) q) ∙ r) (sym (ap (λ (z : State). z.term) q)) (sym (ap (λ (z : State). z.log) q))
          by u a (voted j ei ru q) = no-role (state p k (y ∷ l)).role Candidate Leader ⊥ (ap (λ (z : State). z.role) q ∙ ru) r cl
          by u (level aq) (win j ei ru n q) =
              let tq = ap (λ (z : State). z.term) q in
              let ta = ap (λ (z : State). z.term) aq in
              elim (in_append x u.log (filling p u) (subst (λ (z : List Entry). In x z) (ap (λ (z : State). z.log) q) i)) [
                | inl o ↦ let low = cand-low k l fl' (sym (ap (λ (z : State). z.role) aq) ∙ ru) x (subst (λ (z : List Entry). In x z) (ap (λ (z : State). z.log) aq) o) in absurd (omega arith)
                | inr o ↦ no-batch x.what b ⊥ (filling-plain p u x o) h
              ]
          by u (higher c lt aq) (win j ei ru n q) = no-role u.role Follower Candidate ⊥ (ap (λ (z : State). z.role) aq) ru fc
          by u a (casts c d ei m q) = let one = (cast-parts p u c.0 m).first in let tq = ap (λ (z : State). z.term) q in absurd (omega arith)
          by u a (times ei ru q) = no-role (state p k (y ∷ l)).role Candidate Leader ⊥ (ap (λ (z : State). z.role) q) r cl
          by u (level aq) (alone ei ru n q) =
              let tq = ap (λ (z : State). z.term) q in
              let ta = ap (λ (z : State). z.term) aq in
              elim (in_append x u.log (filling p (candidate k u)) (subst (λ (z : List Entry). In x z) (ap (λ (z : State). z.log) q) i)) [
                | inl o ↦ let low = upto k l fl' x (subst (λ (z : List Entry). In x z) (ap (λ (z : State). z.log) aq) o) in absurd (omega arith)
                | inr o ↦ no-batch x.what b ⊥ (filling-plain p (candidate k u) x o) h
              ]
          by u (higher c lt aq) (alone ei ru n q) =
              let tq = ap (λ (z : State). z.term) q in
              let ta = ap (λ (z : State). z.term) aq in
              elim (in_append x u.log (filling p (candidate k u)) (subst (λ (z : List Entry). In x z) (ap (λ (z : State). z.log) q) i)) [
                | inl o ↦ let low = upto k l fl' x (subst (λ (z : List Entry). In x z) (ap (λ (z : State). z.log) aq) o) in absurd (omega arith)
                | inr o ↦ no-batch x.what b ⊥ (filling-plain p (candidate k u) x o) h
              ]
