-- The commit index is the greatest index that may be committed.
use Rattle.std.proofs.Common.{◌≡◌, ℕ, zero, suc, ◌+◌, ◌≤◌, ◌<◌, ◌==◌, ◌&&◌, ◌||◌, not, Bool, true, false, if◌then◌else◌, List, [], ◌∷◌, length, refl, sym, subst, ap, ◌∙◌, inl, inr, ◌⊎◌, true≢false, arith}
use Rattle.std.specs.Prelude.{max, min, nat_le, nat_lt}
use Rattle.std.proofs.lemmas.Bool.{cases_lt, and_parts, eqb-true, le-leb, leb-true, lt-ltb, or_cases}
use Rattle.iss_base.specs.Lists.{In}
use Rattle.iss_base.specs.Quorum.{count_below}
use Rattle.iss_base.proofs.Lists.{both}
use Rattle.iss_base.proofs.Quorum.{count-more, count-mono, count-one, or_right_true}
use Rattle.iss_sb.specs.declared.effects.Input.{Input}
use Rattle.iss_sb.specs.declared.effects.Params.{Params}
use Rattle.iss_sb.specs.declared.effects.To.{To}
use Rattle.iss_sb.specs.Calls.{IsGoodParams}
use Rattle.iss_sb.specs.Evidence.{Item}
use Rattle.iss_sb.specs.Legal.{Front}
use Rattle.iss_sb.proofs.Cases.{by-both}
use Rattle.raft_wire.specs.declared.entries.Entry.{Entry}
use Rattle.raft_wire.specs.declared.messages.Message.{Message}
use Rattle.raft_wire.specs.declared.messages.Message.TheVariants.{Append, Reply, AskVote, Vote}
use Rattle.sb_raft.specs.Committed.{another_answered, has_answered, IsCommitted, MayBeCommitted, nothing, told, counted as by_count}
use Rattle.sb_raft.specs.Logs.{fits_behind, term_at}
use Rattle.sb_raft.specs.Raft.{commit as committed, raft, state}
use Rattle.sb_raft.specs.Rules.{Follower, Candidate, Leader, State, Step, answer, appended, greatest, holds, may_commit, may_merge, on_append, quiet, raised, step, taken, to}
use Rattle.sb_raft.proofs.CommitIndex.MatchesWereReplied.{answered-matched, matched-answered, no-role, or_left_true, same-is}
use Rattle.sb_raft.proofs.StateChanges.CommitAndMatchIndices.{Commit, same, counted, copied, commit}
use Rattle.sb_raft.proofs.StateChanges.StepCases.{greatest-above, with_reach, Raise, level, higher, Handled, none, down, copy, reply, back, grant, voted, win, casts, times, alone, Next, next_cases}

-- ---- The commit index never decreases

rises : (p : Params) (me : ℕ) (s : State) (i : Input Message) (v : State) → Commit p me s i v → s.commit ≤ v.commit
rises p me s i v (same e f) = omega (arith, e)
rises p me s i v (counted c e one within own n role ext up) = omega (arith, e, up)
rises p me s i v (copied j prev pt c es ei a b st el ec er) = omega (arith, ec)

front-rises : (p : Params) (me : ℕ) (a l : List (Item Message)) → Front a l → (state p me a).commit ≤ (state p me l).commit
front-rises p me a [] f = let e = ap (λ (z : List (Item Message)). (state p me z).commit) f in omega (arith, e)
front-rises p me a (x ∷ l) (inl f) = let e = ap (λ (z : List (Item Message)). (state p me z).commit) f in omega (arith, e)
front-rises p me a (x ∷ l) (inr f) =
    let r = front-rises p me a l f in
    let u = rises p me (state p me l) x.input (state p me (x ∷ l)) (commit p me (state p me l) x.input) in
    omega (arith, r, u)

-- ---- A leader has committed all that it may

greatest-most : (test : ℕ → Bool) (low k i : ℕ) → test i ≡ true → i ≤ k → i ≤ greatest test low k
greatest-most test low zero i h l = omega (arith, l)
greatest-most test low (suc k) i h l =
    by-both (λ (z : ℕ). i ≤ z) (nat_lt low (suc k) && test (suc k)) (suc k) (greatest test low k) (λ q. l)
    (λ q. elim (cases_lt i (suc k)) [
      | inl lt ↦ greatest-most test low k i h (omega (arith, lt))
      | inr le ↦ last (omega (arith, le, l)) q
    ])
  where
    last : i ≡ suc k → (nat_lt low (suc k) && test (suc k)) ≡ false → i ≤ greatest test low k
    last e q = elim (cases_lt low (suc k)) [
      | inl lt ↦ absurd (true≢false (sym (both (nat_lt low (suc k)) (test (suc k)) (lt-ltb low (suc k) lt) (subst (λ (z : ℕ). test z ≡ true) e h)) ∙ q))
      | inr le ↦ let g = greatest-above test low k in omega (arith, e, le, g)
    ]

module _ (p : Params) (me : ℕ) where
  abbrev Full : State → Type 0
  Full s = (i : ℕ) → may_commit p me s i ≡ true → i ≤ length s.log → i ≤ s.commit

  reach-full : (u v : State) → v ≡ with_reach p me u → Full v
  reach-full u v e = subst (λ (z : State). Full z) (sym e) (λ i h l. greatest-most (may_commit p me u) u.commit (length u.log) i h l)

  full-level : (u : State) (i : Input Message) (v : State) → (u.role ≡ Leader → Full u) → v.role ≡ Leader → Handled p me u i v → Full v
  full-level u i v f q (none e) = subst (λ (z : State). Full z) (sym e) (f (sym (ap (λ (z : State). z.role) e) ∙ q))
  full-level u i v f q (down e) = no-role v.role Follower Leader (Full v) (ap (λ (z : State). z.role) e) q refl refl
  full-level u i v f q (copy j prev pt c es ei g gm e) = no-role v.role Follower Leader (Full v) (ap (λ (z : State). z.role) e) q refl refl
  full-level u i v f q (reply j x ei ru ne lx e) = reach-full _ v e
  full-level u i v f q (back j x ei ru nx lx e) = subst (λ (z : State). Full z) (sym e) (λ i h l. f ru i h l)
  full-level u i v f q (grant j last lt ei g e) = let r = sym (ap (λ (z : State). z.role) e) ∙ q in subst (λ (z : State). Full z) (sym e) (λ i h l. f r i h l)
  full-level u i v f q (voted j ei ru e) = no-role v.role Candidate Leader (Full v) (ap (λ (z : State). z.role) e ∙ ru) q refl refl
  full-level u i v f q (win j ei ru n e) = reach-full _ v e
  full-level u i v f q (casts n x ei mc e) = reach-full _ v e
  full-level u i v f q (times ei ru e) = no-role v.role Candidate Leader (Full v) (ap (λ (z : State). z.role) e) q refl refl
  full-level u i v f q (alone ei ru n e) = reach-full _ v e

  full : (xs : List (Item Message)) → (state p me xs).role ≡ Leader → Full (state p me xs)
  full [] r = λ i h l. l
  full (x ∷ xs) r = go (next_cases p me (state p me xs) x.input) (full xs)
    where
      go : Next p me (state p me xs) x.input (state p me (x ∷ xs)) → ((state p me xs).role ≡ Leader → Full (state p me xs)) → Full (state p me (x ∷ xs))
      go n ih = full-level n.mid x.input (state p me (x ∷ xs)) (mid n.mid n.raise) r n.handled
        where
          mid : (u : State) → Raise (state p me xs) u → u.role ≡ Leader → Full u
          mid u (level e) q = subst (λ (z : State). Full z) (sym e) (ih (sym (ap (λ (z : State). z.role) e) ∙ q))
          mid u (higher c l e) q = no-role u.role Follower Leader (Full u) (ap (λ (z : State). z.role) e) q refl refl

  -- ---- f others make a quorum with the node itself

  abbrev other : List (Item Message) → ℕ → ℕ → Bool
  other xs i = another_answered p me (state p me xs).term i xs

  not-self : (xs : List (Item Message)) (i : ℕ) → other xs i me ≡ false
  not-self xs i = ap (λ (b : Bool). not b && has_answered p me (state p me xs).term i xs me) (same-is me me refl)

  quorum-holds : IsGoodParams raft p → me < p.setup.n → (xs : List (Item Message)) (i : ℕ) → (state p me xs).role ≡ Leader → p.setup.f ≤ count_below (other xs i) p.setup.n → p.setup.quorum ≤ count_below (holds me (state p me xs) i) p.setup.n
  quorum-holds good below xs i r h =
      let more = count-more (other xs i) me p.setup.n below (not-self xs i) in
      let mono = count-mono (λ k. (k == me) || other xs i k) (holds me (state p me xs) i) p.setup.n (λ k _ e. elim (or_cases (k == me) (other xs i k) e) [
        | inl q ↦ or_left_true (k == me) _ q
        | inr q ↦
            let parts = and_parts (not (k == me)) (has_answered p me (state p me xs).term i xs k) q in
            or_right_true (k == me) _ (le-leb i ((state p me xs).matched k) (answered-matched p me xs i k r parts.0 parts.1))
      ]) in
      let quorum : p.setup.quorum ≡ p.setup.f + 1 = good.majority in
      omega (arith, more, mono, h, quorum)

  others-answered : IsGoodParams raft p → (xs : List (Item Message)) (i : ℕ) → (state p me xs).role ≡ Leader → 1 ≤ i → p.setup.quorum ≤ count_below (λ k. (k == me) || nat_le i ((state p me xs).matched k)) p.setup.n → p.setup.f ≤ count_below (other xs i) p.setup.n
  others-answered good xs i r one h =
      let mono = count-mono (λ k. (k == me) || nat_le i ((state p me xs).matched k)) (λ k. (k == me) || other xs i k) p.setup.n (λ k _ e. elim (or_cases (k == me) (nat_le i ((state p me xs).matched k)) e) [
        | inl q ↦ or_left_true (k == me) _ q
        | inr q ↦ or_right_true (k == me) _ (matched-answered p me xs i k r one (leb-true i ((state p me xs).matched k) q))
      ]) in
      let single = count-one (other xs i) me p.setup.n in
      let quorum : p.setup.quorum ≡ p.setup.f + 1 = good.majority in
      omega (arith, mono, single, h, quorum)

-- ---- Appends

not-ok : (j k t u x y : ℕ) → In {A = To × Message} (to j (Reply t true x)) (to k (Reply u false y) ∷ []) → ⊥
not-ok j k t u x y (inl e) = is-ok (ap (λ (z : To × Message). z.1) e)
  where
    ok : Message → Bool
    ok (Reply t b x) = b
    ok (Append t prev pt c es) = false
    ok (AskVote t last lt) = false
    ok (Vote t g) = false

    is-ok : Reply t true x ≡ Reply u false y → ⊥
    is-ok e = true≢false (ap ok e)
not-ok j k t u x y (inr h) = h

raised-commit : (s : State) (t : ℕ) → (raised s t).commit ≡ s.commit
raised-commit s t = by-both (λ (z : State). z.commit ≡ s.commit) (nat_lt s.term t) _ s (λ h. refl) (λ h. refl)

module _ (u : State) (j t prev pt c : ℕ) (es : List Entry) where
  abbrev IsOk : Step → Type 0
  IsOk z = In {A = To × Message} (to j (Reply t true (prev + length es))) z.sends

  abbrev f : State
  f = record u { role = Follower }

  -- an ok implies this commit index
  append-told : IsOk (on_append u j t prev pt c es) → min c (prev + length es) ≤ (on_append u j t prev pt c es).state.commit
  append-told =
      by-both (λ (z : Step). IsOk z → min c (prev + length es) ≤ z.state.commit) (t == u.term) (taken f j prev pt c es) (answer u j (Reply u.term false prev))
      (λ h. by-both (λ (z : Step). IsOk z → min c (prev + length es) ≤ z.state.commit) (fits_behind f.log prev pt) (if may_merge f prev es then answer (appended f prev c es) j (Reply f.term true (prev + length es)) else quiet f) (answer f j (Reply f.term false prev))
      (λ g. by-both (λ (z : Step). IsOk z → min c (prev + length es) ≤ z.state.commit) (may_merge f prev es) (answer (appended f prev c es) j (Reply f.term true (prev + length es))) (quiet f)
      (λ k o. omega arith)
      (λ k o. absurd o))
      (λ g o. absurd (not-ok j j t f.term (prev + length es) prev o)))
      (λ h o. absurd (not-ok j j t u.term (prev + length es) prev o))

  -- the commit index stays, or an ok was replied
  append-kinds : ((on_append u j t prev pt c es).state.commit ≡ u.commit) ⊎ (IsOk (on_append u j t prev pt c es) × ((on_append u j t prev pt c es).state.commit ≡ max u.commit (min c (prev + length es))))
  append-kinds =
      by-both Kinds (t == u.term) (taken f j prev pt c es) (answer u j (Reply u.term false prev))
      (λ h. by-both Kinds (fits_behind f.log prev pt) (if may_merge f prev es then answer (appended f prev c es) j (Reply f.term true (prev + length es)) else quiet f) (answer f j (Reply f.term false prev))
      (λ g. by-both Kinds (may_merge f prev es) (answer (appended f prev c es) j (Reply f.term true (prev + length es))) (quiet f)
      (λ k. inr (inl (ap (λ (z : ℕ). to j (Reply z true (prev + length es))) (eqb-true t u.term h)), refl))
      (λ k. inl refl))
      (λ g. inl refl))
      (λ h. inl refl)
    where
      Kinds : Step → Type 0
      Kinds z = (z.state.commit ≡ u.commit) ⊎ (IsOk z × (z.state.commit ≡ max u.commit (min c (prev + length es))))

-- ---- The greatest

module _ (p : Params) (me : ℕ) (good : IsGoodParams raft p) (below : me < p.setup.n) where
  may-more : (x : Item Message) (xs : List (Item Message)) (i : ℕ) → MayBeCommitted p me xs i → MayBeCommitted p me (x ∷ xs) i
  may-more x xs i nothing = nothing
  may-more x xs i (told h) = told (record { item = h.item; before = h.before; moment = inr h.moment; from = h.from; term = h.term; previous = h.previous; previous_term = h.previous_term; commit = h.commit; entries = h.entries; came = h.came; answered = h.answered; is = h.is })
  may-more x xs i (by_count h) = by_count (record { now = h.now; moment = inr h.moment; leads = h.leads; some = h.some; within = h.within; own = h.own; others = h.others })

  commit-may : (xs : List (Item Message)) → MayBeCommitted p me xs (state p me xs).commit
  commit-may [] = nothing
  commit-may (x ∷ xs) = go (commit-may xs) (commit p me (state p me xs) x.input)
    where
      stays : MayBeCommitted p me xs (state p me xs).commit → (state p me (x ∷ xs)).commit ≡ (state p me xs).commit → MayBeCommitted p me (x ∷ xs) (state p me (x ∷ xs)).commit
      stays h e = subst (λ (z : ℕ). MayBeCommitted p me (x ∷ xs) z) (sym e) (may-more x xs (state p me xs).commit h)

      go : MayBeCommitted p me xs (state p me xs).commit → Commit p me (state p me xs) x.input (state p me (x ∷ xs)) → MayBeCommitted p me (x ∷ xs) (state p me (x ∷ xs)).commit
      go ih (same e f) = stays ih e
      go ih (counted c e one within own n role ext up) =
          subst (λ (z : ℕ). MayBeCommitted p me (x ∷ xs) z) (sym e) (by_count (record { now = x ∷ xs; moment = inl refl; leads = role; some = one; within = within; own = own; others = others-answered p me good (x ∷ xs) c role one n }))
      go ih (copied j prev pt c es ei a b st el ec er) =
          let s = state p me xs in
          let t = (state p me (x ∷ xs)).term in
          let long = prev + length es in
          let made : step p me s x.input ≡ on_append (raised s t) j.0 t prev pt c es = ap (λ (z : Input Message). step p me s z) ei in
          let here : (state p me (x ∷ xs)).commit ≡ (on_append (raised s t) j.0 t prev pt c es).state.commit = ap (λ (z : Step). z.state.commit) made in
          elim (append-kinds (raised s t) j.0 t prev pt c es) [
            | inl q ↦ stays ih (here ∙ (q ∙ raised-commit s t))
            | inr q ↦
                let ok : In {A = To × Message} (to j.0 (Reply t true long)) (step p me s x.input).sends = subst (λ (z : Step). In {A = To × Message} (to j.0 (Reply t true long)) z.sends) (sym made) q.0 in
                elim (cases_lt s.commit (min c long)) [
                  | inl lt ↦ told (record { item = x; before = xs; moment = inl refl; from = j; term = t; previous = prev; previous_term = pt; commit = c; entries = es; came = ei; answered = ok; is = omega (arith, ec, lt) })
                  | inr le ↦ stays ih (omega (arith, ec, le))
                ]
          ]

  may-below : (xs : List (Item Message)) (i : ℕ) → MayBeCommitted p me xs i → i ≤ (state p me xs).commit
  may-below xs i nothing = omega arith
  may-below xs i (told h) =
      let s = state p me h.before in
      let long = h.previous + length h.entries in
      let made : step p me s h.item.input ≡ on_append (raised s h.term) h.from.0 h.term h.previous h.previous_term h.commit h.entries = ap (λ (z : Input Message). step p me s z) h.came in
      let ok = subst (λ (z : Step). In {A = To × Message} (to h.from.0 (Reply h.term true long)) z.sends) made h.answered in
      let least = append-told (raised s h.term) h.from.0 h.term h.previous h.previous_term h.commit h.entries ok in
      let here : (state p me (h.item ∷ h.before)).commit ≡ (on_append (raised s h.term) h.from.0 h.term h.previous h.previous_term h.commit h.entries).state.commit = ap (λ (z : Step). z.state.commit) made in
      let up = front-rises p me (h.item ∷ h.before) xs h.moment in
      let is = h.is in
      omega (arith, is, least, here, up)
  may-below xs i (by_count h) =
      let s = state p me h.now in
      let quorum = quorum-holds p me good below h.now i h.leads h.others in
      let may = both (term_at s.log i == s.term) (nat_le p.setup.quorum (count_below (holds me s i) p.setup.n)) (same-is (term_at s.log i) s.term h.own) (le-leb p.setup.quorum (count_below (holds me s i) p.setup.n) quorum) in
      let here = full p me h.now h.leads i may h.within in
      let up = front-rises p me h.now xs h.moment in
      omega (arith, here, up)

  pub commit-greatest : (xs : List (Item Message)) → IsCommitted p me xs (committed p me xs)
  commit-greatest xs = record { may = commit-may xs; most = may-below xs }
