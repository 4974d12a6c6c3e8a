-- How a step changes term, vote, role and log.
use Rattle.std.proofs.Common.{Bool, ◌≡◌, ℕ, zero, suc, ◌+◌, ◌-◌, ◌<◌, ◌≤◌, true, ◌&&◌, List, [], ◌∷◌, ◌++◌, length, take, drop, arith, refl, inl, inr, ◌⊎◌, sym, ◌∙◌, subst, ap, Option, Some, append-nil}
use Rattle.std.specs.Prelude.{◌==◌, nat_le, max, min}
use Rattle.std.proofs.lemmas.Bool.{eqb-true, leb-true, and_parts}
use Rattle.iss_base.specs.Lists.{nth, set_at}
use Rattle.iss_request.specs.declared.ids.NodeId.{NodeId}
use Rattle.iss_sb.specs.declared.effects.Input.{Input}
use Rattle.iss_sb.specs.declared.effects.Input.TheVariants.{Receive}
use Rattle.iss_sb.specs.declared.effects.Params.{Params}
use Rattle.raft_wire.specs.declared.entries.Entry.{Entry}
use Rattle.iss_sb.specs.declared.content.Content.{Content}
use Rattle.iss_sb.specs.declared.content.Content.TheVariants.{Holds}
use Rattle.raft_wire.specs.declared.messages.Message.{Message}
use Rattle.raft_wire.specs.declared.messages.Message.TheVariants.{Append, Vote}
use Rattle.iss_sb.specs.Calls.{is_slot}
use Rattle.sb_raft.specs.Rules.{candidate, is_leader, may_cast, Role, Follower, Candidate, Leader, State, filling, free_for, may_merge, log_limit}
use Rattle.iss_base.specs.Quorum.{count_below}
use Rattle.sb_raft.specs.Logs.{entry, fits_behind, last_term, merge, merged, nils, stay, filled}
use Rattle.sb_raft.proofs.Safety.MatchingAndCompleteness.{OfTerm}
use Rattle.sb_raft.proofs.StateChanges.StepCases.{leader_is, Raise, level, higher, Handled, none, down, copy, reply, back, grant, voted, win, casts, times, alone, Next, next, next_cases}

nils_term : (t k : ℕ) → OfTerm t (nils t k)
nils_term t zero x i = elim i [ ]
nils_term t (suc k) x (inl e) = ap (λ (z : Entry). z.term) e
nils_term t (suc k) x (inr i) = nils_term t k x i

won_term : (p : Params) (s : State) → OfTerm s.term (filling p s)
won_term p s x (inl e) = ap (λ (z : Entry). z.term) e
won_term p s x (inr i) = nils_term s.term (length p.slots - filled s.log) x i

one_term : (t : ℕ) (w : Content) → OfTerm t (entry t w ∷ [])
one_term t w x (inl e) = ap (λ (z : Entry). z.term) e
one_term t w x (inr i) = elim i [ ]

pub record Casts (p : Params) (s : State) (slot : ℕ) : Type 0 where
  pub leads : s.role ≡ Leader
  pub first : s.term ≡ 1
  pub next : is_slot slot (nth p.slots (filled s.log)) ≡ true

pub cast-parts : (p : Params) (s : State) (slot : ℕ) → may_cast p s slot ≡ true → Casts p s slot
cast-parts p s slot h =
    let a = and_parts (is_leader s.role && (s.term == 1)) (is_slot slot (nth p.slots (filled s.log))) h in
    let b = and_parts (is_leader s.role) (s.term == 1) a.0 in
    record { leads = leader_is s.role b.0; first = eqb-true s.term 1 b.1; next = a.1 }

cast-leads : (p : Params) (s : State) (slot : ℕ) → may_cast p s slot ≡ true → s.role ≡ Leader
cast-leads p s slot h = (cast-parts p s slot h).leads

pub data Turn (p : Params) (me : ℕ) (s : State) (i : Input Message) (v : State) : Type 0 where
  follows : v.role ≡ Follower → Turn p me s i v
  stands : v.role ≡ Candidate → s.role ≡ Candidate → s.term ≡ v.term → v.log ≡ s.log → (v.granted ≡ s.granted) ⊎ ((j : NodeId) × (i ≡ Receive j (Vote v.term true)) × (v.granted ≡ set_at s.granted j.0 true)) → Turn p me s i v
  runs : v.role ≡ Candidate → s.term < v.term → v.log ≡ s.log → v.vote ≡ Some me → v.granted ≡ (λ k. k == me) → Turn p me s i v
  rules : v.role ≡ Leader → s.role ≡ Leader → s.term ≡ v.term → (own : List Entry) → v.log ≡ s.log ++ own → OfTerm v.term own → v.granted ≡ s.granted → Turn p me s i v
  wins : v.role ≡ Leader → s.role ≡ Candidate → s.term ≡ v.term → (j : NodeId) → i ≡ Receive j (Vote v.term true) → v.granted ≡ set_at s.granted j.0 true → p.setup.quorum ≤ count_below v.granted p.setup.n → (own : List Entry) → v.log ≡ s.log ++ own → OfTerm v.term own → Turn p me s i v
  wins_alone : v.role ≡ Leader → s.term < v.term → v.granted ≡ (λ k. k == me) → v.vote ≡ Some me → p.setup.quorum ≤ count_below v.granted p.setup.n → (own : List Entry) → v.log ≡ s.log ++ own → OfTerm v.term own → Turn p me s i v

same_turn : (p : Params) (me : ℕ) (s : State) (i : Input Message) (v : State) → v.role ≡ s.role → v.term ≡ s.term → v.log ≡ s.log → v.granted ≡ s.granted → Turn p me s i v
same_turn p me s i v r t l g = go s.role refl
  where
    go : (x : Role) → s.role ≡ x → Turn p me s i v
    go Follower e = follows (r ∙ e)
    go Candidate e = stands (r ∙ e) e (sym t) l (inl g)
    go Leader e = rules (r ∙ e) e (sym t) [] (l ∙ sym (append-nil s.log)) (λ x i. elim i [ ]) g

pub turn_level : (p : Params) (me : ℕ) (s : State) (i : Input Message) (v : State) → Handled p me s i v → Turn p me s i v
turn_level p me s i v (none e) = same_turn p me s i v (ap (λ (z : State). z.role) e) (ap (λ (z : State). z.term) e) (ap (λ (z : State). z.log) e) (ap (λ (z : State). z.granted) e)
turn_level p me s i v (down e) = follows (ap (λ (z : State). z.role) e)
turn_level p me s i v (copy j prev pt c es ei f fm e) = follows (ap (λ (z : State). z.role) e)
turn_level p me s i v (reply j x ei r ne lx e) = same_turn p me s i v (ap (λ (z : State). z.role) e) (ap (λ (z : State). z.term) e) (ap (λ (z : State). z.log) e) (ap (λ (z : State). z.granted) e)
turn_level p me s i v (back j x ei r nx lx e) = same_turn p me s i v (ap (λ (z : State). z.role) e) (ap (λ (z : State). z.term) e) (ap (λ (z : State). z.log) e) (ap (λ (z : State). z.granted) e)
turn_level p me s i v (grant j last lt ei g e) = same_turn p me s i v (ap (λ (z : State). z.role) e) (ap (λ (z : State). z.term) e) (ap (λ (z : State). z.log) e) (ap (λ (z : State). z.granted) e)
turn_level p me s i v (voted j ei r e) =
    let t = ap (λ (z : State). z.term) e in
    stands (ap (λ (z : State). z.role) e ∙ r) r (sym t) (ap (λ (z : State). z.log) e) (inr (j, subst (λ (z : ℕ). i ≡ Receive j (Vote z true)) (sym t) ei, ap (λ (z : State). z.granted) e))
turn_level p me s i v (win j ei r n e) =
    let t = ap (λ (z : State). z.term) e in
    let g = ap (λ (z : State). z.granted) e in
    wins (ap (λ (z : State). z.role) e) r (sym t) j (subst (λ (z : ℕ). i ≡ Receive j (Vote z true)) (sym t) ei) g (subst (λ (z : ℕ → Bool). p.setup.quorum ≤ count_below z p.setup.n) (sym g) n)
    (filling p s) (ap (λ (z : State). z.log) e) (subst (λ (z : ℕ). OfTerm z (filling p s)) (sym t) (won_term p s))
turn_level p me s i v (casts n x ei r e) =
    let t = ap (λ (z : State). z.term) e in
    rules (ap (λ (z : State). z.role) e ∙ cast-leads p s n.0 r) (cast-leads p s n.0 r) (sym t) (entry s.term (Holds x) ∷ []) (ap (λ (z : State). z.log) e) (subst (λ (z : ℕ). OfTerm z (entry s.term (Holds x) ∷ [])) (sym t) (one_term s.term (Holds x))) (ap (λ (z : State). z.granted) e)
turn_level p me s i v (times ei r e) = let t = ap (λ (z : State). z.term) e in runs (ap (λ (z : State). z.role) e) (omega arith) (ap (λ (z : State). z.log) e) (ap (λ (z : State). z.vote) e) (ap (λ (z : State). z.granted) e)
turn_level p me s i v (alone ei r n e) =
    let t = ap (λ (z : State). z.term) e in
    let g = ap (λ (z : State). z.granted) e in
    wins_alone (ap (λ (z : State). z.role) e) (omega arith) g (ap (λ (z : State). z.vote) e) (subst (λ (z : ℕ → Bool). p.setup.quorum ≤ count_below z p.setup.n) (sym g) n)
    (filling p (candidate me s)) (ap (λ (z : State). z.log) e) (subst (λ (z : ℕ). OfTerm z (filling p (candidate me s))) (sym t) (won_term p (candidate me s)))

-- after a message of a higher term the node is a follower, unless the input is a timeout
turn_raised : (p : Params) (me : ℕ) (s u : State) (i : Input Message) (v : State) → s.term < u.term → u.role ≡ Follower → u.log ≡ s.log → Turn p me u i v → u.term ≤ v.term → Turn p me s i v
turn_raised p me s u i v l r lg (follows e) m = follows e
turn_raised p me s u i v l r lg (stands a b c d e) m = let z = sym r ∙ b in cc
turn_raised p me s u i v l r lg (runs a b c d e) m = runs a (omega arith) (c ∙ lg) d e
turn_raised p me s u i v l r lg (rules a b c d e f g) m = let z = sym r ∙ b in cc
turn_raised p me s u i v l r lg (wins a b c d e f g h k o) m = let z = sym r ∙ b in cc
turn_raised p me s u i v l r lg (wins_alone a b c d n own e o) m = wins_alone a (omega arith) c d n own (e ∙ ap (λ (z : List Entry). z ++ own) lg) o

pub term_level : (p : Params) (me : ℕ) (s : State) (i : Input Message) (v : State) → Handled p me s i v → s.term ≤ v.term
term_level p me s i v (none e) = let t = ap (λ (z : State). z.term) e in omega arith
term_level p me s i v (down e) = let t = ap (λ (z : State). z.term) e in omega arith
term_level p me s i v (copy j prev pt c es ei f fm e) = let t = ap (λ (z : State). z.term) e in omega arith
term_level p me s i v (reply j x ei r ne lx e) = let t = ap (λ (z : State). z.term) e in omega arith
term_level p me s i v (back j x ei r nx lx e) = let t = ap (λ (z : State). z.term) e in omega arith
term_level p me s i v (grant j last lt ei g e) = let t = ap (λ (z : State). z.term) e in omega arith
term_level p me s i v (voted j ei r e) = let t = ap (λ (z : State). z.term) e in omega arith
term_level p me s i v (win j ei r n e) = let t = ap (λ (z : State). z.term) e in omega arith
term_level p me s i v (casts n x ei r e) = let t = ap (λ (z : State). z.term) e in omega arith
term_level p me s i v (times ei r e) = let t = ap (λ (z : State). z.term) e in omega arith
term_level p me s i v (alone ei r n e) = let t = ap (λ (z : State). z.term) e in omega arith

pub next_term : (p : Params) (me : ℕ) (s : State) (i : Input Message) → s.term ≤ (next p me s i).term
next_term p me s i = go (next_cases p me s i)
  where
    go : Next p me s i (next p me s i) → s.term ≤ (next p me s i).term
    go n = by n.mid n.raise (term_level p me n.mid i (next p me s i) n.handled)
      where
        by : (u : State) → Raise s u → u.term ≤ (next p me s i).term → s.term ≤ (next p me s i).term
        by u (level e) h = let t = ap (λ (z : State). z.term) e in omega arith
        by u (higher k l e) h = let t = ap (λ (z : State). z.term) e in omega arith

pub turn : (p : Params) (me : ℕ) (s : State) (i : Input Message) → Turn p me s i (next p me s i)
turn p me s i = go (next_cases p me s i)
  where
    go : Next p me s i (next p me s i) → Turn p me s i (next p me s i)
    go n = by n.mid n.raise n.handled
      where
        by : (u : State) → Raise s u → Handled p me u i (next p me s i) → Turn p me s i (next p me s i)
        by u (level e) h = turn_level p me s i (next p me s i) (subst (λ (z : State). Handled p me z i (next p me s i)) e h)
        by u (higher k l e) h =
            let t = ap (λ (z : State). z.term) e in
            turn_raised p me s u i (next p me s i) (omega arith) (ap (λ (z : State). z.role) e) (ap (λ (z : State). z.log) e) (turn_level p me u i (next p me s i) h) (term_level p me u i (next p me s i) h)

-- a vote stays for its term
vote_level : (p : Params) (me : ℕ) (s : State) (i : Input Message) (v : State) (c : ℕ) → Handled p me s i v → s.term ≡ v.term → s.vote ≡ Some c → v.vote ≡ Some c
vote_level p me s i v c (none e) t h = ap (λ (z : State). z.vote) e ∙ h
vote_level p me s i v c (down e) t h = ap (λ (z : State). z.vote) e ∙ h
vote_level p me s i v c (copy j prev pt x es ei f fm e) t h = ap (λ (z : State). z.vote) e ∙ h
vote_level p me s i v c (reply j x ei r ne lx e) t h = ap (λ (z : State). z.vote) e ∙ h
vote_level p me s i v c (back j x ei r nx lx e) t h = ap (λ (z : State). z.vote) e ∙ h
vote_level p me s i v c (grant j last lt ei g e) t h =
    let a = and_parts (s.term == s.term) _ g in
    let b = and_parts (free_for s.vote j.0) _ a.1 in
    let f = subst (λ (z : Option ℕ). free_for z j.0 ≡ true) h b.0 in
    ap (λ (z : State). z.vote) e ∙ ap (λ (z : ℕ). Some z) (sym (eqb-true c j.0 f))
vote_level p me s i v c (voted j ei r e) t h = ap (λ (z : State). z.vote) e ∙ h
vote_level p me s i v c (win j ei r n e) t h = ap (λ (z : State). z.vote) e ∙ h
vote_level p me s i v c (casts n x ei r e) t h = ap (λ (z : State). z.vote) e ∙ h
vote_level p me s i v c (times ei r e) t h = let u = ap (λ (z : State). z.term) e in absurd (omega arith)
vote_level p me s i v c (alone ei r n e) t h = let u = ap (λ (z : State). z.term) e in absurd (omega arith)

pub next_vote : (p : Params) (me : ℕ) (s : State) (i : Input Message) (c : ℕ) → s.term ≡ (next p me s i).term → s.vote ≡ Some c → (next p me s i).vote ≡ Some c
next_vote p me s i c t h = go (next_cases p me s i)
  where
    go : Next p me s i (next p me s i) → (next p me s i).vote ≡ Some c
    go n = by n.mid n.raise n.handled
      where
        by : (u : State) → Raise s u → Handled p me u i (next p me s i) → (next p me s i).vote ≡ Some c
        by u (level e) q = vote_level p me s i (next p me s i) c (subst (λ (z : State). Handled p me z i (next p me s i)) e q) t h
        by u (higher k l e) q = let a = ap (λ (z : State). z.term) e in let b = term_level p me u i (next p me s i) q in absurd (omega arith)

-- how the log changes

pub data Change (p : Params) (me : ℕ) (s : State) (i : Input Message) (v : State) : Type 0 where
  keeps : v.log ≡ s.log → Change p me s i v
  grows : v.role ≡ Leader → (own : List Entry) → v.log ≡ s.log ++ own → OfTerm v.term own → Change p me s i v
  copies : (j : NodeId) (prev pt c : ℕ) (es : List Entry) → i ≡ Receive j (Append v.term prev pt c es) → prev ≤ length s.log → last_term (take prev s.log) ≡ pt → s.commit ≤ prev + stay (drop prev s.log) es → v.log ≡ take prev s.log ++ merge (drop prev s.log) es → v.commit ≡ max s.commit (min c (prev + length es)) → Change p me s i v

pub record Fits (s : State) (prev pt : ℕ) (es : List Entry) : Type 0 where
  pub within : prev ≤ length s.log
  pub previous : last_term (take prev s.log) ≡ pt
  pub keeps : s.commit ≤ prev + stay (drop prev s.log) es
  pub short : length (merged s.log prev es) ≤ log_limit

pub fits_parts : (s : State) (prev pt : ℕ) (es : List Entry) → fits_behind s.log prev pt ≡ true → may_merge s prev es ≡ true → Fits s prev pt es
fits_parts s prev pt es h g =
    let a = and_parts (nat_le prev (length s.log)) (last_term (take prev s.log) == pt) h in
    let b = and_parts (nat_le s.commit (prev + stay (drop prev s.log) es)) (nat_le (length (merged s.log prev es)) log_limit) g in
    record { within = leb-true prev (length s.log) a.0; previous = eqb-true (last_term (take prev s.log)) pt a.1; keeps = leb-true s.commit (prev + stay (drop prev s.log) es) b.0; short = leb-true (length (merged s.log prev es)) log_limit b.1 }

change_level : (p : Params) (me : ℕ) (s : State) (i : Input Message) (v : State) → Handled p me s i v → Change p me s i v
change_level p me s i v (none e) = keeps (ap (λ (z : State). z.log) e)
change_level p me s i v (down e) = keeps (ap (λ (z : State). z.log) e)
change_level p me s i v (copy j prev pt c es ei f fm e) =
    let t = ap (λ (z : State). z.term) e in
    let a = fits_parts s prev pt es f fm in
    copies j prev pt c es (subst (λ (z : ℕ). i ≡ Receive j (Append z prev pt c es)) (sym t) ei) a.within a.previous a.keeps (ap (λ (z : State). z.log) e) (ap (λ (z : State). z.commit) e)
change_level p me s i v (reply j x ei r ne lx e) = keeps (ap (λ (z : State). z.log) e)
change_level p me s i v (back j x ei r nx lx e) = keeps (ap (λ (z : State). z.log) e)
change_level p me s i v (grant j last lt ei g e) = keeps (ap (λ (z : State). z.log) e)
change_level p me s i v (voted j ei r e) = keeps (ap (λ (z : State). z.log) e)
change_level p me s i v (win j ei r n e) = let t = ap (λ (z : State). z.term) e in grows (ap (λ (z : State). z.role) e) (filling p s) (ap (λ (z : State). z.log) e) (subst (λ (z : ℕ). OfTerm z (filling p s)) (sym t) (won_term p s))
change_level p me s i v (casts n x ei r e) = let t = ap (λ (z : State). z.term) e in grows (ap (λ (z : State). z.role) e ∙ cast-leads p s n.0 r) (entry s.term (Holds x) ∷ []) (ap (λ (z : State). z.log) e) (subst (λ (z : ℕ). OfTerm z (entry s.term (Holds x) ∷ [])) (sym t) (one_term s.term (Holds x)))
change_level p me s i v (times ei r e) = keeps (ap (λ (z : State). z.log) e)
change_level p me s i v (alone ei r n e) = let t = ap (λ (z : State). z.term) e in grows (ap (λ (z : State). z.role) e) (filling p (candidate me s)) (ap (λ (z : State). z.log) e) (subst (λ (z : ℕ). OfTerm z (filling p (candidate me s))) (sym t) (won_term p (candidate me s)))

change_raised : (p : Params) (me : ℕ) (s u : State) (i : Input Message) (v : State) → u.log ≡ s.log → u.commit ≡ s.commit → Change p me u i v → Change p me s i v
change_raised p me s u i v lg cm (keeps e) = keeps (e ∙ lg)
change_raised p me s u i v lg cm (grows r own e o) = grows r own (e ∙ ap (λ (z : List Entry). z ++ own) lg) o
change_raised p me s u i v lg cm (copies j prev pt c es a b d f e g) =
    copies j prev pt c es a (subst (λ (z : List Entry). prev ≤ length z) lg b) (subst (λ (z : List Entry). last_term (take prev z) ≡ pt) lg d)
    (subst (λ (z : List Entry). s.commit ≤ prev + stay (drop prev z) es) lg (subst (λ (z : ℕ). z ≤ prev + stay (drop prev u.log) es) cm f))
    (subst (λ (z : List Entry). v.log ≡ take prev z ++ merge (drop prev z) es) lg e) (subst (λ (z : ℕ). v.commit ≡ max z (min c (prev + length es))) cm g)

pub change : (p : Params) (me : ℕ) (s : State) (i : Input Message) → Change p me s i (next p me s i)
change p me s i = go (next_cases p me s i)
  where
    go : Next p me s i (next p me s i) → Change p me s i (next p me s i)
    go n = by n.mid n.raise (change_level p me n.mid i (next p me s i) n.handled)
      where
        by : (u : State) → Raise s u → Change p me u i (next p me s i) → Change p me s i (next p me s i)
        by u (level e) h = subst (λ (z : State). Change p me z i (next p me s i)) e h
        by u (higher k l e) h = change_raised p me s u i (next p me s i) (ap (λ (z : State). z.log) e) (ap (λ (z : State). z.commit) e) h
