-- All committed logs are prefixes of one log.
use Rattle.std.proofs.Common.{if◌then◌else◌, ◌||◌, ◌≡◌, ℕ, zero, suc, ◌+◌, ◌<◌, ◌≤◌, Bool, true, false, cond, List, [], ◌∷◌, ◌++◌, length, take, drop, arith, refl, inl, inr, ◌⊎◌, sym, ◌∙◌, subst, ap, None}
use Rattle.std.specs.Prelude.{◌==◌, nat_lt, nat_le, min}
use Rattle.std.proofs.lemmas.Bool.{cases_lt, eqb-true, leb-true, or_cases}
use Rattle.iss_sb.specs.declared.effects.Input.{Input}
use Rattle.iss_sb.specs.declared.effects.Params.{Params}
use Rattle.raft_wire.specs.declared.entries.Entry.{Entry}
use Rattle.raft_wire.specs.declared.messages.Message.{Message}
use Rattle.raft_wire.specs.declared.messages.Message.TheVariants.{Append, Reply}
use Rattle.iss_sb.specs.Evidence.{Item, World, MayCome, IsSent}
use Rattle.sb_raft.specs.Raft.{raft, state}
use Rattle.sb_raft.specs.Rules.{Follower, Candidate, Leader, State, answer, appended, may_merge, on_append, quiet, raised, taken}
use Rattle.iss_base.specs.Quorum.{count_below}
use Rattle.sb_raft.specs.Logs.{fits_behind, last_term, merge, stay}
use Rattle.iss_sb.specs.Legal.{Front}
use Rattle.sb_raft.proofs.Safety.Invariant.{Inv, MaySend, majority-is}
use Rattle.sb_raft.proofs.Safety.LogPrefixes.{Prefix, Moment, Tail}
use Rattle.sb_raft.proofs.Safety.ListPrefixes.{pre_refl, pre_trans, pre_compare, pre_short, pre_length, last_of}
use Rattle.sb_raft.proofs.Safety.MatchingAndCompleteness.{Copy, Committed, all_fine, all_lead, copied_has, leads, agreement, completeness, Good}
use Rattle.sb_raft.proofs.StateChanges.StepCases.{next, with_copy}
use Rattle.sb_raft.proofs.StateChanges.TermVoteRoleLog.{Turn, follows, stands, runs, rules, wins, wins_alone, turn, next_term, fits_parts}
use Rattle.iss_sb.proofs.Legal.{front_self, front_trans}
use Rattle.sb_raft.proofs.Safety.NodeHistories.{lead_front, lead_here}
use Rattle.sb_raft.proofs.Safety.ElectionSafety.{LeadOf, histories, mom, older, front_tail, legal_front, append_lead, append_sent, take_drop, take_count, previous, term_last, facts}
use Rattle.sb_raft.proofs.StateChanges.CommitAndMatchIndices.{Commit, same, counted, copied, commit, matches}

-- prefixes of lists

pub pre_take : (c : ℕ) (xs : List Entry) → Prefix (take c xs) xs
pre_take zero xs = tt
pre_take (suc c) [] = tt
pre_take (suc c) (x ∷ xs) = (refl, pre_take c xs)

pub take_pre : (c : ℕ) (a b : List Entry) → Prefix a b → c ≤ length a → take c b ≡ take c a
take_pre zero a b h l = refl
take_pre (suc c) [] b h l = absurd (omega arith)
take_pre (suc c) (x ∷ a) [] h l = elim h [ ]
take_pre (suc c) (x ∷ a) (y ∷ b) h l = let r = take_pre c a b h.1 (omega arith) in let e = h.0 in cc

pub take_less : (c d : ℕ) (xs : List Entry) → c ≤ d → Prefix (take c xs) (take d xs)
take_less zero d xs h = tt
take_less (suc c) zero xs h = absurd (omega arith)
take_less (suc c) (suc d) [] h = tt
take_less (suc c) (suc d) (x ∷ xs) h = (refl, take_less c d xs (omega arith))

take_merge : (k : ℕ) (xs es : List Entry) → k ≤ stay xs es → take k (merge xs es) ≡ take k xs
take_merge zero xs es h = refl
take_merge (suc k) xs [] h = refl
take_merge (suc k) [] (e ∷ es) h = absurd (omega arith)
take_merge (suc k) (x ∷ xs) (e ∷ es) h = go (x.term == e.term) h (take_merge k xs es)
  where
    go : (b : Bool) → suc k ≤ cond b (suc (stay xs es)) 0 → (k ≤ stay xs es → take k (merge xs es) ≡ take k xs) → take (suc k) (cond b (x ∷ merge xs es) (e ∷ es)) ≡ x ∷ take k xs
    go true h r = ap (λ (z : List Entry). x ∷ z) (r (omega arith))
    go false h r = absurd (omega arith)

pub take_kept : (c : ℕ) (P xs es : List Entry) → c ≤ length P + stay xs es → take c (P ++ merge xs es) ≡ take c (P ++ xs)
take_kept c [] xs es h = take_merge c xs es (omega arith)
take_kept zero (p ∷ P) xs es h = refl
take_kept (suc c) (p ∷ P) xs es h = ap (λ (z : List Entry). p ∷ z) (take_kept c P xs es (omega arith))

pub stay_length : (xs es : List Entry) → stay xs es ≤ length (merge xs es)
stay_length [] [] = omega arith
stay_length [] (e ∷ es) = omega arith
stay_length (x ∷ xs) [] = omega arith
stay_length (x ∷ xs) (e ∷ es) = go (x.term == e.term) (stay_length xs es)
  where
    go : (b : Bool) → stay xs es ≤ length (merge xs es) → cond b (suc (stay xs es)) 0 ≤ length (cond b (x ∷ merge xs es) (e ∷ es))
    go true h = omega arith
    go false h = omega arith

pub length_both : (xs ys : List Entry) → length (xs ++ ys) ≡ length xs + length ys
length_both [] ys = omega arith
length_both (x ∷ xs) ys = let r = length_both xs ys in omega arith

pub take_long : (c : ℕ) (xs : List Entry) → c ≤ length xs → length (take c xs) ≡ c
take_long zero xs h = refl
take_long (suc c) [] h = absurd (omega arith)
take_long (suc c) (x ∷ xs) h = ap suc (take_long c xs (omega arith))

pub take_some : (c : ℕ) (xs : List Entry) → 1 ≤ c → c ≤ length xs → (P : List Entry) × (y : Entry) × (take c xs ≡ P ++ (y ∷ []))
take_some zero xs h l = absurd (omega arith)
take_some (suc c) [] h l = absurd (omega arith)
take_some (suc c) (x ∷ xs) h l = last_of x (take c xs)

append-taken : (u : State) (j t prev pt c : ℕ) (es : List Entry) → (t == u.term) ≡ true → fits_behind u.log prev pt ≡ true → may_merge u prev es ≡ true → (on_append u j t prev pt c es).state ≡ with_copy u prev c es
append-taken u j t prev pt c es a b d =
    let f = record u { role = Follower } in
    ap (λ (z : Bool). (if z then taken f j prev pt c es else answer u j (Reply u.term false prev)).state) a
    ∙ (ap (λ (z : Bool). (if z then (if may_merge f prev es then answer (appended f prev c es) j (Reply f.term true (prev + length es)) else quiet f) else answer f j (Reply f.term false prev)).state) b
    ∙ ap (λ (z : Bool). (if z then answer (appended f prev c es) j (Reply f.term true (prev + length es)) else quiet f).state) d)

module _ (p : Params) (w : World Message) (inv : Inv p w) where
  abbrev Done : ℕ → List Entry → Type 0
  Done t C = Committed p.setup.f (LeadOf p w) (histories p w) t C

  pub record Sure (k : ℕ) (l : List (Item Message)) : Type 0 where
    pub term : ℕ
    pub low : term ≤ (state p k l).term
    pub front : List Entry
    pub done : Done term front
    pub room : (state p k l).commit ≤ length (state p k l).log
    pub stands : Prefix (take (state p k l).commit (state p k l).log) front

  abbrev Ok : ℕ → List (Item Message) → Type 0
  Ok k l = ((state p k l).commit ≡ 0) ⊎ Sure k l

  pub good_at : (k : ℕ) (l : List (Item Message)) → Front l (w k) → Good (LeadOf p w) (state p k l).log
  good_at k l f = (all_fine p.setup.f (LeadOf p w) (histories p w) (facts p w inv) k (mom p k l) (older p k l) (front_tail p k l (w k) f)).good

  -- after an Append was taken, what was sent is a prefix of the log
  copy_front : (k j t prev pt c : ℕ) (es : List Entry) (i : Item Message) (l : List (Item Message)) → Front (i ∷ l) (w k) → IsSent w j k (Append t prev pt c es) → t ≡ (state p k (i ∷ l)).term → prev ≤ length (state p k l).log → last_term (take prev (state p k l).log) ≡ pt → (state p k (i ∷ l)).log ≡ take prev (state p k l).log ++ merge (drop prev (state p k l).log) es → (front : List Entry) × LeadOf p w t j (front ++ es) × (length front ≡ prev) × Prefix (front ++ es) (state p k (i ∷ l)).log
  copy_front k j t prev pt c es i l f h et n e el =
      let q = append_lead p w inv j k t prev pt c es h in
      let fl = front_trans l (i ∷ l) (w k) (inr (front_self l)) f in
      let cp : Copy (LeadOf p w) (mom p k (i ∷ l)) (mom p k l) = record {
        leader = j;
        old_front = take prev (state p k l).log;
        old_rest = drop prev (state p k l).log;
        front = q.0;
        rest = es;
        old_is = take_drop p w inv prev (state p k l).log;
        lead = subst (λ (z : ℕ). LeadOf p w z j (q.0 ++ es)) et q.1;
        place = take_count p w inv prev (state p k l).log n ∙ sym q.2;
        previous = previous p w inv (take prev (state p k l).log) q.0 (take_count p w inv prev (state p k l).log n ∙ sym q.2) (e ∙ sym q.3);
        is = el;
      } in
      (q.0, q.1, q.2, copied_has p.setup.f (LeadOf p w) (histories p w) (facts p w inv) (mom p k (i ∷ l)) (mom p k l) (good_at k l fl) (λ j m a. (all_lead p.setup.f (LeadOf p w) (histories p w) (facts p w inv) (state p k (i ∷ l)).term j m a).0) cp)

  -- a node that replied ok held the log up to that index
  answered : (k j t x : ℕ) → IsSent w k j (Reply t true x) → (a : List (Item Message)) × Front a (w k) × ((state p k a).term ≡ t) × ((m : List Entry) × LeadOf p w t j m × (length m ≡ x) × Prefix m (state p k a).log)
  answered k j t x h = let q = inv.justified k j (Reply t true x) h in go q.0 q.1 q.2
    where
      go : (a : List (Item Message)) → Front a (w k) → MaySend p k a j (Reply t true x) → (a : List (Item Message)) × Front a (w k) × ((state p k a).term ≡ t) × ((m : List Entry) × LeadOf p w t j m × (length m ≡ x) × Prefix m (state p k a).log)
      go [] f m = elim m [ ]
      go (i ∷ b) f m =
          let g = legal_front p w k (i ∷ b) (w k) f (inv.legal k) in
          let h = subst (λ (z : Input Message). MayCome raft p w k z) m.4 g.0 in
          let tt' : (t == (raised (state p k b) t).term) ≡ true = eq_true t (raised (state p k b) t).term m.5 in
          let step : state p k (i ∷ b) ≡ with_copy (raised (state p k b) t) m.0 m.2 m.3 = ap (λ (z : Input Message). next p k (state p k b) z) m.4 ∙ append-taken (raised (state p k b) t) j t m.0 m.1 m.2 m.3 tt' m.6 m.7 in
          let term = ap (λ (z : State). z.term) step ∙ sym m.5 in
          let parts = fits_parts (raised (state p k b) t) m.0 m.1 m.3 m.6 m.7 in
          let lg = raised_log (state p k b) t in
          let el = subst (λ (z : List Entry). (state p k (i ∷ b)).log ≡ take m.0 z ++ merge (drop m.0 z) m.3) lg (ap (λ (z : State). z.log) step) in
          let n = subst (λ (z : List Entry). m.0 ≤ length z) lg parts.within in
          let e = subst (λ (z : List Entry). last_term (take m.0 z) ≡ m.1) lg parts.previous in
          let c = copy_front k j t m.0 m.1 m.2 m.3 i b f h (sym term) n e el in
          let lc = length_both c.0 m.3 in
          let pl = c.2 in
          let ex = m.8 in
          (i ∷ b, f, term, (c.0 ++ m.3, c.1, omega arith, c.3))
        where
          eq_true : (a b : ℕ) → a ≡ b → (a == b) ≡ true
          eq_true a b e = subst (λ (z : ℕ). (a == z) ≡ true) e (self a)
            where
              self : (a : ℕ) → (a == a) ≡ true
              self a = grind arith

          raised_log : (s : State) (t : ℕ) → (raised s t).log ≡ s.log
          raised_log s t = by (nat_lt s.term t)
            where
              by : (b : Bool) → (if b then record s { term = t; vote = None; role = Follower } else s).log ≡ s.log
              by true = refl
              by false = refl

  -- a leader counts the holders of an index, and commits
  counted_done : (me : ℕ) (l : List (Item Message)) (c : ℕ) → Front l (w me) → (state p me l).role ≡ Leader → 1 ≤ c → c ≤ length (state p me l).log → last_term (take c (state p me l).log) ≡ (state p me l).term → p.setup.quorum ≤ count_below (λ k. (k == me) || nat_le c ((state p me l).matched k)) p.setup.n → Done (state p me l).term (take c (state p me l).log)
  counted_done me l c f r one n lt q =
      let e = take_some c (state p me l).log one n in
      let here = lead_front p me l (w me) (state p me l).term (state p me l).log f (lead_here p me l r) in
      record {
        front = e.0;
        entry = e.1;
        is = e.2;
        term = sym (term_last p w inv e.0 e.1) ∙ (sym (ap last_term e.2) ∙ lt);
        leader = me;
        log = (state p me l).log;
        lead = here;
        stands = pre_take c (state p me l).log;
        makers = λ z. (z == me) || nat_le c ((state p me l).matched z);
        majority = majority-is p w inv (λ z. (z == me) || nat_le c ((state p me l).matched z)) q;
        each = λ k m. elim (or_cases (k == me) (nat_le c ((state p me l).matched k)) m) [
          | inl a ↦ subst (λ (z : ℕ). (o : Moment) × (h : List Moment) × Tail (o ∷ h) (histories p w z) × (o.term ≡ (state p me l).term) × Prefix (take c (state p me l).log) o.log) (sym (eqb-true k me a))
              (mom p me l, older p me l, front_tail p me l (w me) f, refl, pre_take c (state p me l).log)
          | inr a ↦ elim (matches p me w l (legal_front p w me l (w me) f (inv.legal me)) r k) [
            | inl z ↦ let le = leb-true c ((state p me l).matched k) a in absurd (omega arith)
            | inr z ↦
                let le = leb-true c ((state p me l).matched k) a in
                let x = answered k me (state p me l).term z.0 z.2 in
                let m' = x.3 in
                let ex = z.1 in
                let lm = m'.2 in
                let long = take_long c (state p me l).log n in
                let fit : Prefix (take c (state p me l).log) m'.0 = elim (leads p.setup.f (LeadOf p w) (histories p w) (facts p w inv) (state p me l).term me me m'.0 (state p me l).log m'.1 here) [
                  | inl y ↦ elim (pre_compare (take c (state p me l).log) m'.0 (state p me l).log (pre_take c (state p me l).log) y) [
                    | inl v ↦ v
                    | inr v ↦ pre_short m'.0 (take c (state p me l).log) v (omega arith)
                  ]
                  | inr y ↦ pre_trans (take c (state p me l).log) (state p me l).log m'.0 (pre_take c (state p me l).log) y
                ] in
                (mom p k x.0, older p k x.0, front_tail p k x.0 (w k) x.1, x.2, pre_trans (take c (state p me l).log) m'.0 (state p k x.0).log fit m'.3)
          ]
        ];
      }

  -- an old commit index in a longer log
  ok_same : (k : ℕ) (i : Item Message) (l : List (Item Message)) → (state p k (i ∷ l)).commit ≡ (state p k l).commit → Prefix (state p k l).log (state p k (i ∷ l)).log → Ok k l → Ok k (i ∷ l)
  ok_same k i l e f (inl z) = inl (e ∙ z)
  ok_same k i l e f (inr s) =
      let room = s.room in
      let len = pre_length (state p k l).log (state p k (i ∷ l)).log f in
      let rises = next_term p k (state p k l) i.input in
      let low = s.low in
      inr (record {
        term = s.term;
        low = omega (arith, rises, low);
        front = s.front;
        done = s.done;
        room = omega arith;
        stands = subst (λ (z : List Entry). Prefix z s.front) (sym (ap (λ (z : ℕ). take z (state p k (i ∷ l)).log) e ∙ take_pre (state p k l).commit (state p k l).log (state p k (i ∷ l)).log f room)) s.stands;
      })

  ok_counted : (k : ℕ) (i : Item Message) (l : List (Item Message)) (c : ℕ) → Front (i ∷ l) (w k) → (state p k (i ∷ l)).commit ≡ c → 1 ≤ c → c ≤ length (state p k (i ∷ l)).log → last_term (take c (state p k (i ∷ l)).log) ≡ (state p k (i ∷ l)).term → p.setup.quorum ≤ count_below (λ z. (z == k) || nat_le c ((state p k (i ∷ l)).matched z)) p.setup.n → (state p k (i ∷ l)).role ≡ Leader → Ok k (i ∷ l)
  ok_counted k i l c f e one n lt q r =
      let d = counted_done k (i ∷ l) c f r one n lt q in
      inr (record {
        term = (state p k (i ∷ l)).term;
        low = omega arith;
        front = take c (state p k (i ∷ l)).log;
        done = d;
        room = omega arith;
        stands = subst (λ (z : ℕ). Prefix (take z (state p k (i ∷ l)).log) (take c (state p k (i ∷ l)).log)) (sym e) (pre_refl (take c (state p k (i ∷ l)).log));
      })

  abbrev OkBelow : ℕ → Type 0
  OkBelow n = (k : ℕ) (l : List (Item Message)) → Front l (w k) → (state p k l).term < n → Ok k l

  -- leaders and candidates, whose commit index is not from a message of their term
  ok_lead : (n : ℕ) → OkBelow n → (k : ℕ) (l : List (Item Message)) → Front l (w k) → (state p k l).term < suc n → ((state p k l).role ≡ Leader) ⊎ ((state p k l).role ≡ Candidate) → Ok k l
  ok_lead n ih k [] f l r = inl refl
  ok_lead n ih k (i ∷ l) f lt r =
      let fl = front_trans l (i ∷ l) (w k) (inr (front_self l)) f in
      let nt = next_term p k (state p k l) i.input in
      by_commit (before (ok_lead n ih k l fl (omega arith)) (turn p k (state p k l) i.input)) (commit p k (state p k l) i.input)
    where
      fl' : Front l (w k)
      fl' = front_trans l (i ∷ l) (w k) (inr (front_self l)) f

      lower : (state p k l).term < (state p k (i ∷ l)).term → Ok k l
      lower q = ih k l fl' (omega arith)

      before : (((state p k l).role ≡ Leader) ⊎ ((state p k l).role ≡ Candidate) → Ok k l) → Turn p k (state p k l) i.input (state p k (i ∷ l)) → Ok k l
      before rec (follows a) = absurd (no a r)
        where
          no : (state p k (i ∷ l)).role ≡ Follower → ((state p k (i ∷ l)).role ≡ Leader) ⊎ ((state p k (i ∷ l)).role ≡ Candidate) → ⊥
          no a (inl b) = cc
          no a (inr b) = cc
      before rec (stands a b c d e) = rec (inr b)
      before rec (runs a b c d e) = lower b
      before rec (rules a b c own e o g) = rec (inl b)
      before rec (wins a b c j ei eg m own eo ot) = rec (inr b)
      before rec (wins_alone a b c d m own e o) = lower b

      by_commit : Ok k l → Commit p k (state p k l) i.input (state p k (i ∷ l)) → Ok k (i ∷ l)
      by_commit o (same e g) = ok_same k i l e g o
      by_commit o (counted c e a b d g h ext rise) = ok_counted k i l c f e a b d g h
      by_commit o (copied j prev pt c es ei a b st el ec er) = absurd (no er r)
        where
          no : (state p k (i ∷ l)).role ≡ Follower → ((state p k (i ∷ l)).role ≡ Leader) ⊎ ((state p k (i ∷ l)).role ≡ Candidate) → ⊥
          no a (inl b) = cc
          no a (inr b) = cc

  ok_at : (n : ℕ) → OkBelow n → (k : ℕ) (l : List (Item Message)) → Front l (w k) → (state p k l).term < suc n → Ok k l
  ok_at n ih k [] f lt = inl refl
  ok_at n ih k (i ∷ l) f lt =
      let nt = next_term p k (state p k l) i.input in
      go (ok_at n ih k l (front_trans l (i ∷ l) (w k) (inr (front_self l)) f) (omega arith)) (commit p k (state p k l) i.input)
    where
      go : Ok k l → Commit p k (state p k l) i.input (state p k (i ∷ l)) → Ok k (i ∷ l)
      go o (same e g) = ok_same k i l e g o
      go o (counted c e a b d g h ext rise) = ok_counted k i l c f e a b d g h
      go o (copied j prev pt c es ei a b st el ec er) =
          let g = legal_front p w k (i ∷ l) (w k) f (inv.legal k) in
          let h = subst (λ (z : Input Message). MayCome raft p w k z) ei g.0 in
          let cf = copy_front k j.0 (state p k (i ∷ l)).term prev pt c es i l f h refl a b el in
          let src = append_sent p w inv j.0 k (state p k (i ∷ l)).term prev pt c es h in
          elim (cases_lt (state p k l).commit (min c (prev + length es))) [
            | inl q ↦ from_leader cf src q
            | inr q ↦ kept o (omega arith)
          ]
        where
          kept : Ok k l → (state p k (i ∷ l)).commit ≡ (state p k l).commit → Ok k (i ∷ l)
          kept (inl z) e = inl (e ∙ z)
          kept (inr s) e =
              let lp = take_long prev (state p k l).log a in
              let tk = take_kept (state p k l).commit (take prev (state p k l).log) (drop prev (state p k l).log) es (omega arith) in
              let td = take_drop p w inv prev (state p k l).log in
              let same_front = ap (λ (z : List Entry). take (state p k l).commit z) el ∙ (tk ∙ ap (λ (z : List Entry). take (state p k l).commit z) (sym td)) in
              let sl = stay_length (drop prev (state p k l).log) es in
              let ll = ap length el ∙ length_both (take prev (state p k l).log) (merge (drop prev (state p k l).log) es) in
              let rises = next_term p k (state p k l) i.input in
              let low = s.low in
              inr (record {
                term = s.term;
                low = omega (arith, rises, low);
                front = s.front;
                done = s.done;
                room = omega arith;
                stands = subst (λ (z : List Entry). Prefix z s.front) (sym (ap (λ (z : ℕ). take z (state p k (i ∷ l)).log) e ∙ same_front)) s.stands;
              })

          from_leader : ((front : List Entry) × LeadOf p w (state p k (i ∷ l)).term j.0 (front ++ es) × (length front ≡ prev) × Prefix (front ++ es) (state p k (i ∷ l)).log) → ((d : List (Item Message)) × Front d (w j.0) × ((state p j.0 d).role ≡ Leader) × ((state p k (i ∷ l)).term ≡ (state p j.0 d).term) × (c ≤ (state p j.0 d).commit) × ((front : List Entry) × ((state p j.0 d).log ≡ front ++ es) × (length front ≡ prev) × (last_term front ≡ pt))) → (state p k l).commit < min c (prev + length es) → Ok k (i ∷ l)
          from_leader cf src q =
              let x = src.5 in
              let ct = src.4 in
              let et = src.3 in
              let okd = ok_lead n ih j.0 src.0 src.1 (omega arith) (inl src.2) in
              lead_ok okd
            where
              lead_ok : Ok j.0 src.0 → Ok k (i ∷ l)
              lead_ok (inl z) = let ct = src.4 in absurd (omega arith)
              lead_ok (inr s) =
                  let ct = src.4 in
                  let x = src.5 in
                  let lf = cf.2 in
                  let lx = x.2 in
                  let room = s.room in
                  let new : (state p k (i ∷ l)).commit ≡ min c (prev + length es) = omega arith in
                  -- the leader's log is the prefix that was sent
                  let lb = length_both cf.0 es in
                  let lbx = length_both x.0 es in
                  let ll = ap length x.1 in
                  let lead_d = lead_front p j.0 src.0 (w j.0) (state p j.0 src.0).term (state p j.0 src.0).log src.1 (lead_here p j.0 src.0 src.2) in
                  let ld = subst (λ (z : ℕ). LeadOf p w z j.0 (state p j.0 src.0).log) (sym src.3) lead_d in
                  let same_log : Prefix (state p j.0 src.0).log (cf.0 ++ es) = elim (leads p.setup.f (LeadOf p w) (histories p w) (facts p w inv) (state p k (i ∷ l)).term j.0 j.0 (state p j.0 src.0).log (cf.0 ++ es) ld cf.1) [
                    | inl y ↦ y
                    | inr y ↦ pre_short (cf.0 ++ es) (state p j.0 src.0).log y (omega arith)
                  ] in
                  let on : Prefix (state p j.0 src.0).log (state p k (i ∷ l)).log = pre_trans (state p j.0 src.0).log (cf.0 ++ es) (state p k (i ∷ l)).log same_log cf.3 in
                  let len = pre_length (state p j.0 src.0).log (state p k (i ∷ l)).log on in
                  let cut = take_pre (state p k (i ∷ l)).commit (state p j.0 src.0).log (state p k (i ∷ l)).log on (omega arith) in
                  let less = take_less (state p k (i ∷ l)).commit (state p j.0 src.0).commit (state p j.0 src.0).log (omega arith) in
                  let low = s.low in
                  let same_term = src.3 in
                  inr (record {
                    term = s.term;
                    low = omega (arith, low, same_term);
                    front = s.front;
                    done = s.done;
                    room = omega arith;
                    stands = subst (λ (z : List Entry). Prefix z s.front) (sym cut) (pre_trans (take (state p k (i ∷ l)).commit (state p j.0 src.0).log) (take (state p j.0 src.0).commit (state p j.0 src.0).log) s.front less s.stands);
                  })

  ok_below : (n : ℕ) → OkBelow n
  ok_below zero k l f lt = absurd (omega arith)
  ok_below (suc n) k l f lt = ok_at n (ok_below n) k l f lt

  -- what a node has committed is in the log of each leader of a later term
  pub committed_kept : (i j : ℕ) (a : List (Item Message)) (t : ℕ) (m : List Entry) → Front a (w i) → LeadOf p w t j m → (state p i a).term < t → Prefix (take (state p i a).commit (state p i a).log) m
  committed_kept i j a t m f lead later = go (ok_below (suc (state p i a).term) i a f (omega arith))
    where
      go : Ok i a → Prefix (take (state p i a).commit (state p i a).log) m
      go (inl z) = subst (λ (c : ℕ). Prefix (take c (state p i a).log) m) (sym z) tt
      go (inr x) =
          let low = x.low in
          pre_trans _ x.front m x.stands (completeness p.setup.f (LeadOf p w) (histories p w) (facts p w inv) x.term t j x.front m (omega (arith, low, later)) x.done lead)

  -- of two committed logs, at any two times, one is a prefix of the other
  pub committed_agree : (i j : ℕ) (a b : List (Item Message)) → Front a (w i) → Front b (w j) → Prefix (take (state p i a).commit (state p i a).log) (take (state p j b).commit (state p j b).log) ⊎ Prefix (take (state p j b).commit (state p j b).log) (take (state p i a).commit (state p i a).log)
  committed_agree i j a b f g = go (ok_below (suc (state p i a).term) i a f (omega arith)) (ok_below (suc (state p j b).term) j b g (omega arith))
    where
      A : List Entry
      A = take (state p i a).commit (state p i a).log

      go : Ok i a → Ok j b → Prefix (take (state p i a).commit (state p i a).log) (take (state p j b).commit (state p j b).log) ⊎ Prefix (take (state p j b).commit (state p j b).log) (take (state p i a).commit (state p i a).log)
      go (inl z) y = inl (subst (λ (c : ℕ). Prefix (take c (state p i a).log) (take (state p j b).commit (state p j b).log)) (sym z) tt)
      go (inr x) (inl z) = inr (subst (λ (c : ℕ). Prefix (take c (state p j b).log) (take (state p i a).commit (state p i a).log)) (sym z) tt)
      go (inr x) (inr y) = elim (agreement p.setup.f (LeadOf p w) (histories p w) (facts p w inv) x.term y.term x.front y.front x.done y.done) [
        | inl q ↦ pre_compare _ _ y.front (pre_trans (take (state p i a).commit (state p i a).log) x.front y.front x.stands q) y.stands
        | inr q ↦ pre_compare _ _ x.front x.stands (pre_trans (take (state p j b).commit (state p j b).log) y.front x.front y.stands q)
      ]
