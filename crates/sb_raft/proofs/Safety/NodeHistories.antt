-- Facts on one node's history.
use Rattle.std.proofs.Common.{◌≡◌, ℕ, ◌<◌, ◌≤◌, Bool, true, false, cond, List, [], ◌∷◌, ◌++◌, arith, refl, inl, inr, ◌⊎◌, sym, ◌∙◌, subst, ap, Some, append_assoc, append-nil}
use Rattle.std.specs.Prelude.{◌==◌}
use Rattle.std.proofs.lemmas.Bool.{eqb-true}
use Rattle.iss_request.specs.declared.ids.NodeId.{NodeId}
use Rattle.iss_sb.specs.declared.effects.Input.{Input}
use Rattle.iss_sb.specs.declared.effects.Input.TheVariants.{Receive}
use Rattle.iss_sb.specs.declared.effects.Params.{Params}
use Rattle.raft_wire.specs.declared.entries.Entry.{Entry}
use Rattle.raft_wire.specs.declared.messages.Message.{Message}
use Rattle.raft_wire.specs.declared.messages.Message.TheVariants.{Vote}
use Rattle.iss_base.proofs.Lists.{in_append}
use Rattle.iss_sb.specs.Evidence.{Item, World, MayCome, IsSent}
use Rattle.iss_sb.specs.Legal.{Front, HaveCome}
use Rattle.sb_raft.specs.Raft.{raft, state}
use Rattle.sb_raft.specs.Rules.{Role, Follower, Candidate, Leader, State}
use Rattle.iss_base.specs.Quorum.{count_below}
use Rattle.iss_base.specs.Lists.{set_at}
use Rattle.iss_base.specs.Lists.{In}
use Rattle.iss_sb.proofs.Legal.{front_self}
use Rattle.sb_raft.proofs.Safety.LogPrefixes.{Prefix}
use Rattle.sb_raft.proofs.Safety.ListPrefixes.{pre_refl, pre_trans, pre_append}
use Rattle.sb_raft.proofs.Safety.MatchingAndCompleteness.{OfTerm}
use Rattle.sb_raft.proofs.StateChanges.TermVoteRoleLog.{Turn, follows, stands, runs, rules, wins, wins_alone, turn, next_term, next_vote}

-- the leader of term 1: its log is of that term, and it was not elected
pub record IsFirst (p : Params) (me : ℕ) (xs : List (Item Message)) : Type 0 where
  pub leads : (state p me xs).role ≡ Leader
  pub term : (state p me xs).term ≡ 1
  pub own : me ≡ p.leader.0
  pub log : (e : Entry) → In e (state p me xs).log → e.term ≡ (state p me xs).term
  pub none : (k : ℕ) → (state p me xs).granted k ≡ false

abbrev pub LeadIn : Params → ℕ → List (Item Message) → ℕ → List Entry → Type 0
LeadIn p me [] t m = ((state p me []).role ≡ Leader) × ((state p me []).term ≡ t) × ((state p me []).log ≡ m)
LeadIn p me (i ∷ l) t m = (((state p me (i ∷ l)).role ≡ Leader) × ((state p me (i ∷ l)).term ≡ t) × ((state p me (i ∷ l)).log ≡ m)) ⊎ LeadIn p me l t m

abbrev pub CandIn : Params → ℕ → List (Item Message) → ℕ → List Entry → Type 0
CandIn p me [] t b = ⊥
CandIn p me (i ∷ l) t b = (((state p me (i ∷ l)).role ≡ Candidate) × ((state p me (i ∷ l)).term ≡ t) × ((state p me (i ∷ l)).log ≡ b)) ⊎ CandIn p me l t b

abbrev pub VotedIn : Params → ℕ → List (Item Message) → ℕ → ℕ → Type 0
VotedIn p me [] t c = ((state p me []).term ≡ t) × ((state p me []).vote ≡ Some c)
VotedIn p me (i ∷ l) t c = (((state p me (i ∷ l)).term ≡ t) × ((state p me (i ∷ l)).vote ≡ Some c)) ⊎ VotedIn p me l t c

not_both : (r : Role) → r ≡ Leader → r ≡ Candidate → ⊥
not_both r a b = cc

set_cases : (k j : ℕ) (g : ℕ → Bool) → set_at g j true k ≡ true → (k ≡ j) ⊎ (g k ≡ true)
set_cases k j g h = go (k == j) refl h
  where
    go : (b : Bool) → (k == j) ≡ b → cond b true (g k) ≡ true → (k ≡ j) ⊎ (g k ≡ true)
    go true e h = inl (eqb-true k j e)
    go false e h = inr h

module _ (p : Params) (me : ℕ) where
  pub term_one : (l : List (Item Message)) → 1 ≤ (state p me l).term
  term_one [] = omega arith
  term_one (i ∷ l) = let a = term_one l in let b = next_term p me (state p me l) i.input in omega arith

  pub front_term : (a l : List (Item Message)) → Front a l → (state p me a).term ≤ (state p me l).term
  front_term a [] h = let e = ap (λ (z : List (Item Message)). (state p me z).term) h in omega arith
  front_term a (i ∷ l) (inl h) = let e = ap (λ (z : List (Item Message)). (state p me z).term) h in omega arith
  front_term a (i ∷ l) (inr h) = let r = front_term a l h in let b = next_term p me (state p me l) i.input in omega arith

  pub voted_now : (l : List (Item Message)) (t c : ℕ) → VotedIn p me l t c → (t ≤ (state p me l).term) × (t ≡ (state p me l).term → (state p me l).vote ≡ Some c)
  voted_now [] t c h = let e = h.0 in (omega arith, λ q. h.1)
  voted_now (i ∷ l) t c (inl h) = let e = h.0 in (omega arith, λ q. h.1)
  voted_now (i ∷ l) t c (inr h) =
      let r = voted_now l t c h in
      let a = r.0 in
      let b = next_term p me (state p me l) i.input in
      (omega arith, λ q. next_vote p me (state p me l) i.input c (omega arith) (r.1 (omega arith)))

  pub one_vote : (l : List (Item Message)) (t c d : ℕ) → VotedIn p me l t c → VotedIn p me l t d → c ≡ d
  one_vote [] t c d h g = let a = h.1 in let b = g.1 in cc
  one_vote (i ∷ l) t c d (inl h) (inl g) = let a = h.1 in let b = g.1 in cc
  one_vote (i ∷ l) t c d (inl h) (inr g) =
      let r = voted_now (i ∷ l) t d (inr g) in let a = h.1 in let b = r.1 (sym h.0) in cc
  one_vote (i ∷ l) t c d (inr h) (inl g) =
      let r = voted_now (i ∷ l) t c (inr h) in let a = g.1 in let b = r.1 (sym g.0) in cc
  one_vote (i ∷ l) t c d (inr h) (inr g) = one_vote l t c d h g

  pub lead_term : (l : List (Item Message)) (t : ℕ) (m : List Entry) → LeadIn p me l t m → (t ≤ (state p me l).term) × (1 ≤ t)
  lead_term [] t m h = let e = h.1 in (omega arith, omega arith)
  lead_term (i ∷ l) t m (inl h) = let e = h.1 in let o = term_one (i ∷ l) in (omega arith, omega arith)
  lead_term (i ∷ l) t m (inr h) = let r = lead_term l t m h in let a = r.0 in let b = next_term p me (state p me l) i.input in (omega arith, r.1)

  pub cand_term : (l : List (Item Message)) (t : ℕ) (m : List Entry) → CandIn p me l t m → t ≤ (state p me l).term
  cand_term [] t m h = elim h [ ]
  cand_term (i ∷ l) t m (inl h) = let e = h.1 in omega arith
  cand_term (i ∷ l) t m (inr h) = let r = cand_term l t m h in let b = next_term p me (state p me l) i.input in omega arith

  pub lead_front : (a l : List (Item Message)) (t : ℕ) (m : List Entry) → Front a l → LeadIn p me a t m → LeadIn p me l t m
  lead_front a [] t m f h = subst (λ (z : List (Item Message)). LeadIn p me z t m) f h
  lead_front a (i ∷ l) t m (inl f) h = subst (λ (z : List (Item Message)). LeadIn p me z t m) f h
  lead_front a (i ∷ l) t m (inr f) h = inr (lead_front a l t m f h)

  pub lead_here : (l : List (Item Message)) → (state p me l).role ≡ Leader → LeadIn p me l (state p me l).term (state p me l).log
  lead_here [] r = (r, refl, refl)
  lead_here (i ∷ l) r = inl (r, refl, refl)

  pub lead_at : (l : List (Item Message)) (t : ℕ) (m : List Entry) → LeadIn p me l t m → (a : List (Item Message)) × Front a l × ((state p me a).role ≡ Leader) × ((state p me a).term ≡ t) × ((state p me a).log ≡ m)
  lead_at [] t m h = ([], refl, h.0, h.1, h.2)
  lead_at (i ∷ l) t m (inl h) = (i ∷ l, inl refl, h.0, h.1, h.2)
  lead_at (i ∷ l) t m (inr h) = let r = lead_at l t m h in (r.0, inr r.1, r.2, r.3, r.4)

  pub cand_front : (a l : List (Item Message)) (t : ℕ) (m : List Entry) → Front a l → CandIn p me a t m → CandIn p me l t m
  cand_front a [] t m f h = subst (λ (z : List (Item Message)). CandIn p me z t m) f h
  cand_front a (i ∷ l) t m (inl f) h = subst (λ (z : List (Item Message)). CandIn p me z t m) f h
  cand_front a (i ∷ l) t m (inr f) h = inr (cand_front a l t m f h)

  -- a candidate has not led its term
  pub cand_never : (l : List (Item Message)) (m : List Entry) → (state p me l).role ≡ Candidate → LeadIn p me l (state p me l).term m → ⊥
  cand_never [] m r h = not_both (state p me []).role h.0 r
  cand_never (i ∷ l) m r (inl h) = not_both (state p me (i ∷ l)).role h.0 r
  cand_never (i ∷ l) m r (inr h) = go (cand_never l m) (turn p me (state p me l) i.input)
    where
      below : (state p me l).term < (state p me (i ∷ l)).term → ⊥
      below k = let a = (lead_term l (state p me (i ∷ l)).term m h).0 in absurd (omega arith)

      go : ((state p me l).role ≡ Candidate → LeadIn p me l (state p me l).term m → ⊥) → Turn p me (state p me l) i.input (state p me (i ∷ l)) → ⊥
      go ih (follows a) = cc
      go ih (stands a b c d e) = ih b (subst (λ (z : ℕ). LeadIn p me l z m) (sym c) h)
      go ih (runs a b c d e) = below b
      go ih (rules a b c d e f g) = not_both (state p me (i ∷ l)).role a r
      go ih (wins a b c d e f g k o q) = not_both (state p me (i ∷ l)).role a r
      go ih (wins_alone a b c d n own e o) = below b

  -- a leader's log is append-only
  pub lead_now : (l : List (Item Message)) (m : List Entry) → (state p me l).role ≡ Leader → LeadIn p me l (state p me l).term m → Prefix m (state p me l).log
  lead_now [] m r h = subst (λ (z : List Entry). Prefix z (state p me []).log) h.2 (pre_refl (state p me []).log)
  lead_now (i ∷ l) m r (inl h) = subst (λ (z : List Entry). Prefix z (state p me (i ∷ l)).log) h.2 (pre_refl (state p me (i ∷ l)).log)
  lead_now (i ∷ l) m r (inr h) = go (lead_now l m) (turn p me (state p me l) i.input)
    where
      below : (state p me l).term < (state p me (i ∷ l)).term → Prefix m (state p me (i ∷ l)).log
      below k = let a = (lead_term l (state p me (i ∷ l)).term m h).0 in absurd (omega arith)

      go : ((state p me l).role ≡ Leader → LeadIn p me l (state p me l).term m → Prefix m (state p me l).log) → Turn p me (state p me l) i.input (state p me (i ∷ l)) → Prefix m (state p me (i ∷ l)).log
      go ih (follows a) = cc
      go ih (stands a b c d e) = absurd (not_both (state p me (i ∷ l)).role r a)
      go ih (runs a b c d e) = below b
      go ih (rules a b c own e f g) = subst (λ (z : List Entry). Prefix m z) (sym e) (pre_trans m (state p me l).log ((state p me l).log ++ own) (ih b (subst (λ (z : ℕ). LeadIn p me l z m) (sym c) h)) (pre_append (state p me l).log own))
      go ih (wins a b c d e f g k o q) = absurd (cand_never l m b (subst (λ (z : ℕ). LeadIn p me l z m) (sym c) h))
      go ih (wins_alone a b c d n own e o) = below b

  pub lead_chain : (l : List (Item Message)) (t : ℕ) (m n : List Entry) → LeadIn p me l t m → LeadIn p me l t n → Prefix m n ⊎ Prefix n m
  lead_chain [] t m n h g = inl (subst (λ (z : List Entry). Prefix z n) h.2 (subst (λ (z : List Entry). Prefix (state p me []).log z) g.2 (pre_refl (state p me []).log)))
  lead_chain (i ∷ l) t m n (inl h) (inl g) = inl (subst (λ (z : List Entry). Prefix z n) h.2 (subst (λ (z : List Entry). Prefix (state p me (i ∷ l)).log z) g.2 (pre_refl (state p me (i ∷ l)).log)))
  lead_chain (i ∷ l) t m n (inl h) (inr g) = inr (subst (λ (z : List Entry). Prefix n z) h.2 (lead_now (i ∷ l) n h.0 (inr (subst (λ (z : ℕ). LeadIn p me l z n) (sym h.1) g))))
  lead_chain (i ∷ l) t m n (inr h) (inl g) = inl (subst (λ (z : List Entry). Prefix m z) g.2 (lead_now (i ∷ l) m g.0 (inr (subst (λ (z : ℕ). LeadIn p me l z m) (sym g.1) h))))
  lead_chain (i ∷ l) t m n (inr h) (inr g) = lead_chain l t m n h g

  -- the origin of the log of a leader or candidate
  pub record Later (l : List (Item Message)) : Type 0 where
    pub before : List (Item Message)
    pub front : Front before l
    pub low : (state p me before).term < (state p me l).term
    pub own : List Entry
    pub is : (state p me l).log ≡ (state p me before).log ++ own
    pub term : OfTerm (state p me l).term own
    pub last : (a : List (Item Message)) → Front a l → (state p me a).term < (state p me l).term → Front a before
    pub cands : (b : List Entry) → CandIn p me l (state p me l).term b → b ≡ (state p me before).log
    pub vote : (state p me l).vote ≡ Some me

  of_both : (t : ℕ) (xs ys : List Entry) → OfTerm t xs → OfTerm t ys → OfTerm t (xs ++ ys)
  of_both t xs ys a b x i = elim (in_append x xs ys i) [ inl u ↦ a x u | inr u ↦ b x u ]

  follower_no : (r : Role) → r ≡ Follower → (r ≡ Leader) ⊎ (r ≡ Candidate) → ⊥
  follower_no r e (inl h) = cc
  follower_no r e (inr h) = cc

  start_role : (b : Bool) → (cond b Leader Follower ≡ Leader) ⊎ (cond b Leader Follower ≡ Candidate) → b ≡ true
  start_role true h = refl
  start_role false (inl h) = cc
  start_role false (inr h) = cc

  pub origin : (l : List (Item Message)) → ((state p me l).role ≡ Leader) ⊎ ((state p me l).role ≡ Candidate) → IsFirst p me l ⊎ Later l
  origin [] r =
      let e = start_role (me == p.leader.0) r in
      inl (record { leads = ap (λ (z : Bool). cond z Leader Follower) e; term = refl; own = eqb-true me p.leader.0 e; log = λ x i. elim i [ ]; none = λ k. refl })
  origin (i ∷ l) r = go (origin l) (turn p me (state p me l) i.input)
    where
      s : State
      s = state p me l

      more : Later l → (own : List Entry) → (state p me l).term ≡ (state p me (i ∷ l)).term → (state p me (i ∷ l)).log ≡ (state p me l).log ++ own → OfTerm (state p me (i ∷ l)).term own → ((state p me (i ∷ l)).role ≡ Candidate → own ≡ []) → ((state p me (i ∷ l)).role ≡ Candidate → (state p me l).role ≡ Candidate) → Later (i ∷ l)
      more a own t e o n c =
          let al = a.low in
          record {
            before = a.before;
            front = inr a.front;
            low = omega arith;
            own = a.own ++ own;
            is = e ∙ (ap (λ (z : List Entry). z ++ own) a.is ∙ append_assoc (state p me a.before).log a.own own);
            term = of_both (state p me (i ∷ l)).term a.own own (subst (λ (z : ℕ). OfTerm z a.own) t a.term) o;
            last = λ b f k. elim f [
              | inl q ↦ let z = ap (λ (w : List (Item Message)). (state p me w).term) q in absurd (omega arith)
              | inr q ↦ a.last b q (subst (λ (z : ℕ). (state p me b).term < z) (sym t) k)
            ];
            cands = λ b h. elim h [
              | inl q ↦
                  let en = n q.0 in
                  let now = sym q.2 ∙ (e ∙ (ap (λ (z : List Entry). (state p me l).log ++ z) en ∙ append-nil (state p me l).log)) in
                  now ∙ a.cands (state p me l).log (here l (c q.0))
              | inr q ↦ a.cands b (subst (λ (z : ℕ). CandIn p me l z b) (sym t) q)
            ];
            vote = next_vote p me (state p me l) i.input me t a.vote;
          }
        where
          here : (m : List (Item Message)) → (state p me m).role ≡ Candidate → CandIn p me m (state p me m).term (state p me m).log
          here [] r = no_start (me == p.leader.0) r
            where
              no_start : (b : Bool) → cond b Leader Follower ≡ Candidate → ⊥
              no_start true h = cc
              no_start false h = cc
          here (j ∷ m) r = inl (r, refl, refl)

      fresh : (state p me l).term < (state p me (i ∷ l)).term → (own : List Entry) → (state p me (i ∷ l)).log ≡ (state p me l).log ++ own → OfTerm (state p me (i ∷ l)).term own → ((state p me (i ∷ l)).role ≡ Candidate → own ≡ []) → (state p me (i ∷ l)).vote ≡ Some me → Later (i ∷ l)
      fresh k own e o n v = record {
        before = l;
        front = inr (front_self l);
        low = k;
        own = own;
        is = e;
        term = o;
        last = λ b f q. elim f [
          | inl z ↦ let w = ap (λ (w : List (Item Message)). (state p me w).term) z in absurd (omega arith)
          | inr z ↦ z
        ];
        cands = λ b h. elim h [
          | inl q ↦ sym q.2 ∙ (e ∙ (ap (λ (z : List Entry). (state p me l).log ++ z) (n q.0) ∙ append-nil (state p me l).log))
          | inr q ↦ let z = cand_term l (state p me (i ∷ l)).term b q in absurd (omega arith)
        ];
        vote = v;
      }

      no_first : IsFirst p me l → (state p me l).role ≡ Candidate → ⊥
      no_first a b = not_both (state p me l).role a.leads b

      go : (((state p me l).role ≡ Leader) ⊎ ((state p me l).role ≡ Candidate) → IsFirst p me l ⊎ Later l) → Turn p me (state p me l) i.input (state p me (i ∷ l)) → IsFirst p me (i ∷ l) ⊎ Later (i ∷ l)
      go ih (follows a) = absurd (follower_no (state p me (i ∷ l)).role a r)
      go ih (stands a b c d e) = elim (ih (inr b)) [
        | inl x ↦ absurd (no_first x b)
        | inr x ↦ inr (more x [] c (d ∙ sym (append-nil (state p me l).log)) (λ x i. elim i [ ]) (λ q. refl) (λ q. b))
      ]
      go ih (runs a b c d e) = inr (fresh b [] (c ∙ sym (append-nil (state p me l).log)) (λ x i. elim i [ ]) (λ q. refl) d)
      go ih (rules a b c own e f g) = elim (ih (inl b)) [
        | inl x ↦ inl (record { leads = a; term = sym c ∙ x.term; own = x.own; log = subst (λ (z : List Entry). OfTerm (state p me (i ∷ l)).term z) (sym e) (of_both (state p me (i ∷ l)).term (state p me l).log own (subst (λ (z : ℕ). OfTerm z (state p me l).log) c x.log) f); none = λ k. ap (λ (z : ℕ → Bool). z k) g ∙ x.none k })
        | inr x ↦ inr (more x own c e f (λ q. absurd (not_both (state p me (i ∷ l)).role a q)) (λ q. absurd (not_both (state p me (i ∷ l)).role a q)))
      ]
      go ih (wins a b c j e f g own o q) = elim (ih (inr b)) [
        | inl x ↦ absurd (no_first x b)
        | inr x ↦ inr (more x own c o q (λ q. absurd (not_both (state p me (i ∷ l)).role a q)) (λ q. absurd (not_both (state p me (i ∷ l)).role a q)))
      ]
      go ih (wins_alone a b c d n own e o) = inr (fresh b own e o (λ q. absurd (not_both (state p me (i ∷ l)).role a q)) d)

  -- which nodes granted their vote
  pub record Counts (w : World Message) (l : List (Item Message)) : Type 0 where
    pub from : (k : ℕ) → (state p me l).granted k ≡ true → (k ≡ me) ⊎ IsSent w k me (Vote (state p me l).term true)
    pub enough : (state p me l).role ≡ Leader → p.setup.quorum ≤ count_below (state p me l).granted p.setup.n

  pub counts : (w : World Message) (l : List (Item Message)) → HaveCome raft p w me l → ((state p me l).role ≡ Leader) ⊎ ((state p me l).role ≡ Candidate) → IsFirst p me l ⊎ Counts w l
  counts w [] g r =
      let e = start_role (me == p.leader.0) r in
      inl (record { leads = ap (λ (z : Bool). cond z Leader Follower) e; term = refl; own = eqb-true me p.leader.0 e; log = λ x i. elim i [ ]; none = λ k. refl })
  counts w (i ∷ l) g r = go (counts w l g.1) (turn p me (state p me l) i.input)
    where
      grants_of : (j : NodeId) → i.input ≡ Receive j (Vote (state p me (i ∷ l)).term true) → IsSent w j.0 me (Vote (state p me (i ∷ l)).term true)
      grants_of j e = subst (λ (z : Input Message). MayCome raft p w me z) e g.0

      old : Counts w l → (state p me l).term ≡ (state p me (i ∷ l)).term → (state p me (i ∷ l)).granted ≡ (state p me l).granted → ((state p me (i ∷ l)).role ≡ Leader → (state p me l).role ≡ Leader) → Counts w (i ∷ l)
      old c t e u = record {
        from = λ k h. subst (λ (z : ℕ). (k ≡ me) ⊎ IsSent w k me (Vote z true)) t (c.from k (subst (λ (z : ℕ → Bool). z k ≡ true) e h));
        enough = λ q. subst (λ (z : ℕ → Bool). p.setup.quorum ≤ count_below z p.setup.n) (sym e) (c.enough (u q));
      }

      added : Counts w l → (state p me l).term ≡ (state p me (i ∷ l)).term → (j : NodeId) → i.input ≡ Receive j (Vote (state p me (i ∷ l)).term true) → (state p me (i ∷ l)).granted ≡ set_at (state p me l).granted j.0 true → ((state p me (i ∷ l)).role ≡ Leader → p.setup.quorum ≤ count_below (state p me (i ∷ l)).granted p.setup.n) → Counts w (i ∷ l)
      added c t j ei e u = record {
        from = λ k h. elim (set_cases k j.0 (state p me l).granted (subst (λ (z : ℕ → Bool). z k ≡ true) e h)) [
          | inl q ↦ inr (subst (λ (z : ℕ). IsSent w z me (Vote (state p me (i ∷ l)).term true)) (sym q) (grants_of j ei))
          | inr q ↦ subst (λ (z : ℕ). (k ≡ me) ⊎ IsSent w k me (Vote z true)) t (c.from k q)
        ];
        enough = u;
      }

      alone_now : (state p me (i ∷ l)).granted ≡ (λ k. k == me) → ((state p me (i ∷ l)).role ≡ Leader → p.setup.quorum ≤ count_below (state p me (i ∷ l)).granted p.setup.n) → Counts w (i ∷ l)
      alone_now e u = record {
        from = λ k h. inl (eqb-true k me (subst (λ (z : ℕ → Bool). z k ≡ true) e h));
        enough = u;
      }

      no_first : IsFirst p me l → (state p me l).role ≡ Candidate → ⊥
      no_first a b = not_both (state p me l).role a.leads b

      go : (((state p me l).role ≡ Leader) ⊎ ((state p me l).role ≡ Candidate) → IsFirst p me l ⊎ Counts w l) → Turn p me (state p me l) i.input (state p me (i ∷ l)) → IsFirst p me (i ∷ l) ⊎ Counts w (i ∷ l)
      go ih (follows a) = absurd (follower_no (state p me (i ∷ l)).role a r)
      go ih (stands a b c d e) = elim (ih (inr b)) [
        | inl x ↦ absurd (no_first x b)
        | inr x ↦ elim e [
          | inl q ↦ inr (old x c q (λ z. absurd (not_both (state p me (i ∷ l)).role z a)))
          | inr q ↦ inr (added x c q.0 q.1 q.2 (λ z. absurd (not_both (state p me (i ∷ l)).role z a)))
        ]
      ]
      go ih (runs a b c d e) = inr (alone_now e (λ z. absurd (not_both (state p me (i ∷ l)).role z a)))
      go ih (rules a b c own e f g) = elim (ih (inl b)) [
        | inl x ↦ inl (record { leads = a; term = sym c ∙ x.term; own = x.own; log = subst (λ (z : List Entry). OfTerm (state p me (i ∷ l)).term z) (sym e) (of_both (state p me (i ∷ l)).term (state p me l).log own (subst (λ (z : ℕ). OfTerm z (state p me l).log) c x.log) f); none = λ k. ap (λ (z : ℕ → Bool). z k) g ∙ x.none k })
        | inr x ↦ inr (old x c g (λ z. b))
      ]
      go ih (wins a b c j e f g own o q) = elim (ih (inr b)) [
        | inl x ↦ absurd (no_first x b)
        | inr x ↦ inr (added x c j e f (λ z. g))
      ]
      go ih (wins_alone a b c d n own e o) = inr (alone_now c (λ z. n))
