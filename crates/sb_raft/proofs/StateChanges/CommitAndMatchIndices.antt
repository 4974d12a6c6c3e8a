-- How a step changes the commit index and a leader's match indices.
use Rattle.std.proofs.Common.{if◌then◌else◌, ◌&&◌, ◌≡◌, ℕ, zero, suc, ◌+◌, ◌<◌, ◌≤◌, Bool, true, false, ◌||◌, cond, List, [], ◌∷◌, ◌++◌, length, take, drop, arith, refl, inl, inr, ◌⊎◌, sym, ◌∙◌, subst, ap}
use Rattle.std.specs.Prelude.{◌==◌, nat_lt, nat_le, max, min}
use Rattle.std.proofs.lemmas.Bool.{cases_lt, eqb-true, ltb-true, leb-true, and_parts}
use Rattle.iss_request.specs.declared.ids.NodeId.{NodeId}
use Rattle.iss_sb.specs.declared.effects.Input.{Input}
use Rattle.iss_sb.specs.declared.effects.Input.TheVariants.{Receive}
use Rattle.iss_sb.specs.declared.effects.Params.{Params}
use Rattle.raft_wire.specs.declared.entries.Entry.{Entry}
use Rattle.raft_wire.specs.declared.messages.Message.{Message}
use Rattle.raft_wire.specs.declared.messages.Message.TheVariants.{Append, Reply}
use Rattle.iss_sb.specs.Evidence.{Item, World, MayCome, IsSent}
use Rattle.sb_raft.specs.Raft.{raft, state}
use Rattle.sb_raft.specs.Rules.{Follower, Leader, State, candidate, greatest, holds, may_commit, won}
use Rattle.iss_base.specs.Quorum.{count_below}
use Rattle.sb_raft.specs.Logs.{last_term, merge, stay}
use Rattle.iss_base.specs.Lists.{set_at}
use Rattle.iss_sb.specs.Legal.{HaveCome}
use Rattle.sb_raft.proofs.Safety.Invariant.{node}
use Rattle.sb_raft.proofs.Safety.LogPrefixes.{Prefix}
use Rattle.sb_raft.proofs.Safety.ListPrefixes.{pre_refl, pre_append}
use Rattle.sb_raft.proofs.StateChanges.StepCases.{Raise, level, higher, next, reach, with_reach, with_granted, with_match, with_cast, Handled, none, down, copy, reply, back, grant, voted, win, casts, times, alone, Next, next_cases}
use Rattle.sb_raft.proofs.StateChanges.TermVoteRoleLog.{cast-parts, fits_parts}

-- the commit index

pub record Above (test : ℕ → Bool) (low k g : ℕ) : Type 0 where
  pub above : low < g
  pub within : g ≤ k
  pub passes : test g ≡ true

pub greatest_is : (test : ℕ → Bool) (low k : ℕ) → (greatest test low k ≡ low) ⊎ Above test low k (greatest test low k)
greatest_is test low zero = inl refl
greatest_is test low (suc k) = go (nat_lt low (suc k) && test (suc k)) refl (greatest_is test low k)
  where
    go : (b : Bool) → (nat_lt low (suc k) && test (suc k)) ≡ b → ((greatest test low k ≡ low) ⊎ Above test low k (greatest test low k)) → ((if b then suc k else greatest test low k) ≡ low) ⊎ Above test low (suc k) (if b then suc k else greatest test low k)
    go true e r = let a = and_parts (nat_lt low (suc k)) (test (suc k)) e in inr (record { above = ltb-true low (suc k) a.0; within = omega arith; passes = a.1 })
    go false e (inl r) = inl r
    go false e (inr r) = let l = r.within in inr (record { above = r.above; within = omega arith; passes = r.passes })

pub data Commit (p : Params) (me : ℕ) (s : State) (i : Input Message) (v : State) : Type 0 where
  same : v.commit ≡ s.commit → Prefix s.log v.log → Commit p me s i v
  counted : (c : ℕ) → v.commit ≡ c → 1 ≤ c → c ≤ length v.log → last_term (take c v.log) ≡ v.term → p.setup.quorum ≤ count_below (λ k. (k == me) || nat_le c (v.matched k)) p.setup.n → v.role ≡ Leader → Prefix s.log v.log → s.commit < c → Commit p me s i v
  copied : (j : NodeId) (prev pt c : ℕ) (es : List Entry) → i ≡ Receive j (Append v.term prev pt c es) → prev ≤ length s.log → last_term (take prev s.log) ≡ pt → s.commit ≤ prev + stay (drop prev s.log) es → v.log ≡ take prev s.log ++ merge (drop prev s.log) es → v.commit ≡ max s.commit (min c (prev + length es)) → v.role ≡ Follower → Commit p me s i v

pub front_same : (a b : List Entry) → b ≡ a → Prefix a b
front_same a b e = subst (λ (z : List Entry). Prefix a z) (sym e) (pre_refl a)

-- after committing by counting in a state u that keeps s's commit index and extends its log
reach_commit : (p : Params) (me : ℕ) (s u : State) (i : Input Message) (v : State) → v ≡ with_reach p me u → u.commit ≡ s.commit → Prefix s.log u.log → u.role ≡ Leader → Commit p me s i v
reach_commit p me s u i v e c f r =
    let el : v.log ≡ u.log = ap (λ (z : State). z.log) e in
    let et : v.term ≡ u.term = ap (λ (z : State). z.term) e in
    let em : v.matched ≡ u.matched = ap (λ (z : State). z.matched) e in
    let ec : v.commit ≡ reach p me u = ap (λ (z : State). z.commit) e in
    elim (greatest_is (may_commit p me u) u.commit (length u.log)) [
      | inl q ↦ same (ec ∙ (q ∙ c)) (subst (λ (z : List Entry). Prefix s.log z) (sym el) f)
      | inr q ↦
          let b = and_parts (last_term (take (reach p me u) u.log) == u.term) _ q.passes in
          let l = q.above in
          counted (reach p me u) ec (omega arith) (subst (λ (z : List Entry). reach p me u ≤ length z) (sym el) q.within)
          (subst (λ (z : List Entry). last_term (take (reach p me u) z) ≡ v.term) (sym el) (eqb-true (last_term (take (reach p me u) u.log)) u.term b.0 ∙ sym et))
          (subst (λ (z : ℕ → ℕ). p.setup.quorum ≤ count_below (λ k. (k == me) || nat_le (reach p me u) (z k)) p.setup.n) (sym em) (leb-true p.setup.quorum (count_below (holds me u (reach p me u)) p.setup.n) b.1))
          (ap (λ (z : State). z.role) e ∙ r) (subst (λ (z : List Entry). Prefix s.log z) (sym el) f) (omega arith)
    ]

commit_level : (p : Params) (me : ℕ) (s : State) (i : Input Message) (v : State) → Handled p me s i v → Commit p me s i v
commit_level p me s i v (none e) = same (ap (λ (z : State). z.commit) e) (front_same s.log v.log (ap (λ (z : State). z.log) e))
commit_level p me s i v (down e) = same (ap (λ (z : State). z.commit) e) (front_same s.log v.log (ap (λ (z : State). z.log) e))
commit_level p me s i v (copy j prev pt c es ei f fm e) =
    let t = ap (λ (z : State). z.term) e in
    let a = fits_parts s prev pt es f fm in
    copied j prev pt c es (subst (λ (z : ℕ). i ≡ Receive j (Append z prev pt c es)) (sym t) ei) a.within a.previous a.keeps (ap (λ (z : State). z.log) e) (ap (λ (z : State). z.commit) e) (ap (λ (z : State). z.role) e)
commit_level p me s i v (reply j x ei r ne lx e) = reach_commit p me s (with_match s j.0 x) i v e refl (pre_refl s.log) r
commit_level p me s i v (back j x ei r nx lx e) = same (ap (λ (z : State). z.commit) e) (front_same s.log v.log (ap (λ (z : State). z.log) e))
commit_level p me s i v (grant j last lt ei g e) = same (ap (λ (z : State). z.commit) e) (front_same s.log v.log (ap (λ (z : State). z.log) e))
commit_level p me s i v (voted j ei r e) = same (ap (λ (z : State). z.commit) e) (front_same s.log v.log (ap (λ (z : State). z.log) e))
commit_level p me s i v (win j ei r n e) = reach_commit p me s (won p (with_granted s j.0)) i v e refl (pre_append s.log _) refl
commit_level p me s i v (casts n x ei r e) = reach_commit p me s (with_cast s x) i v e refl (pre_append s.log _) (cast-parts p s n.0 r).leads
commit_level p me s i v (times ei r e) = same (ap (λ (z : State). z.commit) e) (front_same s.log v.log (ap (λ (z : State). z.log) e))
commit_level p me s i v (alone ei r n e) = reach_commit p me s (won p (candidate me s)) i v e refl (pre_append s.log _) refl

commit_raised : (p : Params) (me : ℕ) (s u : State) (i : Input Message) (v : State) → u.log ≡ s.log → u.commit ≡ s.commit → Commit p me u i v → Commit p me s i v
commit_raised p me s u i v lg cm (same e f) = same (e ∙ cm) (subst (λ (z : List Entry). Prefix z v.log) lg f)
commit_raised p me s u i v lg cm (counted c a b d e f g h l) = counted c a b d e f g (subst (λ (z : List Entry). Prefix z v.log) lg h) (omega (arith, cm, l))
commit_raised p me s u i v lg cm (copied j prev pt c es a b d f e g r) =
    copied j prev pt c es a (subst (λ (z : List Entry). prev ≤ length z) lg b) (subst (λ (z : List Entry). last_term (take prev z) ≡ pt) lg d)
    (subst (λ (z : List Entry). s.commit ≤ prev + stay (drop prev z) es) lg (subst (λ (z : ℕ). z ≤ prev + stay (drop prev u.log) es) cm f))
    (subst (λ (z : List Entry). v.log ≡ take prev z ++ merge (drop prev z) es) lg e) (subst (λ (z : ℕ). v.commit ≡ max z (min c (prev + length es))) cm g) r

pub commit : (p : Params) (me : ℕ) (s : State) (i : Input Message) → Commit p me s i (next p me s i)
commit p me s i = go (next_cases p me s i)
  where
    go : Next p me s i (next p me s i) → Commit p me s i (next p me s i)
    go n = by n.mid n.raise (commit_level p me n.mid i (next p me s i) n.handled)
      where
        by : (u : State) → Raise s u → Commit p me u i (next p me s i) → Commit p me s i (next p me s i)
        by u (level e) h = subst (λ (z : State). Commit p me z i (next p me s i)) e h
        by u (higher k l e) h = commit_raised p me s u i (next p me s i) (ap (λ (z : State). z.log) e) (ap (λ (z : State). z.commit) e) h

-- a leader's match indices

pub data Ruled (p : Params) (me : ℕ) (s : State) (i : Input Message) (v : State) : Type 0 where
  anew : ((k : ℕ) → v.matched k ≡ 0) → Ruled p me s i v
  on : s.role ≡ Leader → s.term ≡ v.term → ((k : ℕ) → (v.matched k ≡ s.matched k) ⊎ ((x : ℕ) × (i ≡ Receive (node k) (Reply v.term true x)) × (v.matched k ≡ x))) → Ruled p me s i v

matched_cases : (g : ℕ → ℕ) (j x k : ℕ) → (set_at g j (max (g j) x) k ≡ g k) ⊎ ((k ≡ j) × (set_at g j (max (g j) x) k ≡ x))
matched_cases g j x k = go (k == j) refl
  where
    go : (b : Bool) → (k == j) ≡ b → (cond b (max (g j) x) (g k) ≡ g k) ⊎ ((k ≡ j) × (cond b (max (g j) x) (g k) ≡ x))
    go false e = inl refl
    go true e =
        let q = eqb-true k j e in
        let gq = ap g q in
        elim (cases_lt (g j) x) [ inl l ↦ inr (q, omega arith) | inr l ↦ inl (omega arith) ]

same_role : (p : Params) (me : ℕ) (s : State) (i : Input Message) (v : State) → v.role ≡ Leader → v.role ≡ s.role → v.term ≡ s.term → v.matched ≡ s.matched → Ruled p me s i v
same_role p me s i v r er et em = on (sym er ∙ r) (sym et) (λ k. inl (ap (λ (g : ℕ → ℕ). g k) em))

ruled_level : (p : Params) (me : ℕ) (s : State) (i : Input Message) (v : State) → v.role ≡ Leader → Handled p me s i v → Ruled p me s i v
ruled_level p me s i v r (none e) = same_role p me s i v r (ap (λ (z : State). z.role) e) (ap (λ (z : State). z.term) e) (ap (λ (z : State). z.matched) e)
ruled_level p me s i v r (down e) = let q = ap (λ (z : State). z.role) e in cc
ruled_level p me s i v r (copy j prev pt c es ei f fm e) = let q = ap (λ (z : State). z.role) e in cc
ruled_level p me s i v r (reply j x ei rl ne lx e) =
    let t = ap (λ (z : State). z.term) e in
    let m = ap (λ (z : State). z.matched) e in
    on rl (sym t) (λ k. elim (matched_cases s.matched j.0 x k) [
      | inl q ↦ inl (ap (λ (g : ℕ → ℕ). g k) m ∙ q)
      | inr q ↦ inr (x, subst (λ (z : ℕ). i ≡ Receive (node z) (Reply v.term true x)) (sym q.0) (subst (λ (z : ℕ). i ≡ Receive j (Reply z true x)) (sym t) ei), ap (λ (g : ℕ → ℕ). g k) m ∙ q.1)
    ])
ruled_level p me s i v r (grant j last lt ei g e) = same_role p me s i v r (ap (λ (z : State). z.role) e) (ap (λ (z : State). z.term) e) (ap (λ (z : State). z.matched) e)
ruled_level p me s i v r (back j x ei rl nx lx e) = same_role p me s i v r (ap (λ (z : State). z.role) e) (ap (λ (z : State). z.term) e) (ap (λ (z : State). z.matched) e)
ruled_level p me s i v r (voted j ei rl e) = let q = ap (λ (z : State). z.role) e in cc
ruled_level p me s i v r (win j ei rl n e) = anew (λ k. ap (λ (z : State). z.matched k) e)
ruled_level p me s i v r (casts n x ei rl e) = same_role p me s i v r (ap (λ (z : State). z.role) e) (ap (λ (z : State). z.term) e) (ap (λ (z : State). z.matched) e)
ruled_level p me s i v r (times ei rl e) = let q = ap (λ (z : State). z.role) e in cc
ruled_level p me s i v r (alone ei rl n e) = anew (λ k. ap (λ (z : State). z.matched k) e)

ruled_raised : (p : Params) (me : ℕ) (s u : State) (i : Input Message) (v : State) → u.role ≡ Follower → Ruled p me u i v → Ruled p me s i v
ruled_raised p me s u i v r (anew h) = anew h
ruled_raised p me s u i v r (on a b c) = let z = sym r ∙ a in cc

pub ruled : (p : Params) (me : ℕ) (s : State) (i : Input Message) → (next p me s i).role ≡ Leader → Ruled p me s i (next p me s i)
ruled p me s i r = go (next_cases p me s i)
  where
    go : Next p me s i (next p me s i) → Ruled p me s i (next p me s i)
    go n = by n.mid n.raise (ruled_level p me n.mid i (next p me s i) r n.handled)
      where
        by : (u : State) → Raise s u → Ruled p me u i (next p me s i) → Ruled p me s i (next p me s i)
        by u (level e) h = subst (λ (z : State). Ruled p me z i (next p me s i)) e h
        by u (higher k l e) h = ruled_raised p me s u i (next p me s i) (ap (λ (z : State). z.role) e) h

-- each match index was replied in this term
pub matches : (p : Params) (me : ℕ) (w : World Message) (l : List (Item Message)) → HaveCome raft p w me l → (state p me l).role ≡ Leader → (k : ℕ) → ((state p me l).matched k ≡ 0) ⊎ ((x : ℕ) × ((state p me l).matched k ≡ x) × IsSent w k me (Reply (state p me l).term true x))
matches p me w [] g r k = inl refl
matches p me w (i ∷ l) g r k = go (matches p me w l g.1) (ruled p me (state p me l) i.input r)
  where
    go : ((state p me l).role ≡ Leader → (k : ℕ) → ((state p me l).matched k ≡ 0) ⊎ ((x : ℕ) × ((state p me l).matched k ≡ x) × IsSent w k me (Reply (state p me l).term true x))) → Ruled p me (state p me l) i.input (state p me (i ∷ l)) → ((state p me (i ∷ l)).matched k ≡ 0) ⊎ ((x : ℕ) × ((state p me (i ∷ l)).matched k ≡ x) × IsSent w k me (Reply (state p me (i ∷ l)).term true x))
    go ih (anew h) = inl (h k)
    go ih (on a b c) = elim (c k) [
      | inl q ↦ elim (ih a k) [
        | inl z ↦ inl (q ∙ z)
        | inr z ↦ inr (z.0, q ∙ z.1, subst (λ (y : ℕ). IsSent w k me (Reply y true z.0)) b z.2)
      ]
      | inr q ↦ inr (q.0, q.2, subst (λ (z : Input Message). MayCome raft p w me z) q.1 g.0)
    ]
