-- The invariant of reachable worlds, and from it the facts that log matching and leader completeness need.
use Rattle.std.proofs.Common.{if◌then◌else◌, ◌≡◌, ℕ, zero, suc, ◌<◌, ◌≤◌, Bool, true, false, List, [], ◌∷◌, ◌++◌, length, take, drop, arith, refl, inl, inr, ◌⊎◌, sym, ◌∙◌, subst, ap, Some, None}
use Rattle.std.specs.Prelude.{◌==◌, nat_lt, nat_le}
use Rattle.std.proofs.lemmas.Bool.{cases_eq, cases_lt, eqb-true, ltb-true, leb-true, and_parts, or_cases}
use Rattle.iss_sb.specs.declared.effects.Input.{Input}
use Rattle.iss_sb.specs.declared.effects.Input.TheVariants.{Receive}
use Rattle.iss_sb.specs.declared.effects.Params.{Params}
use Rattle.raft_wire.specs.declared.entries.Entry.{Entry}
use Rattle.raft_wire.specs.declared.messages.Message.{Message}
use Rattle.raft_wire.specs.declared.messages.Message.TheVariants.{Append, AskVote, Vote}
use Rattle.iss_sb.specs.Evidence.{Item, World, MayCome, IsSent}
use Rattle.sb_raft.specs.Raft.{raft, state}
use Rattle.sb_raft.specs.Rules.{answer, Follower, Candidate, Leader, State, free_for, grants, raised}
use Rattle.iss_base.specs.Quorum.{count_below}
use Rattle.sb_raft.specs.Logs.{last_term, up_to_date}
use Rattle.sb_raft.proofs.Safety.VotesPrecedeAppends.{Ballot, IsStill}
use Rattle.iss_sb.specs.Legal.{Front, HaveCome}
use Rattle.sb_raft.proofs.Safety.Invariant.{Inv, MaySend, majority-is, node}
use Rattle.sb_raft.proofs.Safety.LogPrefixes.{Moment, Tail}
use Rattle.sb_raft.proofs.Safety.ListPrefixes.{last_of}
use Rattle.sb_raft.proofs.Safety.MatchingAndCompleteness.{Majority, share, Grow, Copy, Step, Steps, Newer, Voted, Based, Facts}
use Rattle.sb_raft.proofs.StateChanges.StepCases.{next}
use Rattle.sb_raft.proofs.StateChanges.TermVoteRoleLog.{next_term, Change, keeps, grows, copies, change}
use Rattle.iss_sb.proofs.Legal.{front_self, front_trans}
use Rattle.sb_raft.proofs.Safety.NodeHistories.{IsFirst, LeadIn, CandIn, VotedIn, term_one, front_term, one_vote, lead_term, lead_front, lead_here, lead_at, cand_front, cand_never, lead_chain, Later, origin, Counts, counts}

abbrev pub mom : Params → ℕ → List (Item Message) → Moment
mom p me l = record { term = (state p me l).term; log = (state p me l).log }

abbrev pub older : Params → ℕ → List (Item Message) → List Moment
older p me [] = []
older p me (i ∷ l) = mom p me l ∷ older p me l

abbrev pub moments : Params → ℕ → List (Item Message) → List Moment
moments p me l = mom p me l ∷ older p me l

pub front_tail : (p : Params) (me : ℕ) (a l : List (Item Message)) → Front a l → Tail (moments p me a) (moments p me l)
front_tail p me a [] f = inl (ap (moments p me) f)
front_tail p me a (i ∷ l) (inl f) = inl (ap (moments p me) f)
front_tail p me a (i ∷ l) (inr f) = inr (front_tail p me a l f)

pub tail_front : (p : Params) (me : ℕ) (o : Moment) (r : List Moment) (l : List (Item Message)) → Tail (o ∷ r) (moments p me l) → (a : List (Item Message)) × Front a l × (o ∷ r ≡ moments p me a)
tail_front p me o r [] (inl e) = ([], refl, e)
tail_front p me o r [] (inr e) = cc
tail_front p me o r (i ∷ l) (inl e) = (i ∷ l, inl refl, e)
tail_front p me o r (i ∷ l) (inr e) = let q = tail_front p me o r l e in (q.0, inr q.1, q.2)

pub front_compare : (a b l : List (Item Message)) → Front a l → Front b l → Front a b ⊎ Front b a
front_compare a b [] f g = inl (subst (λ (z : List (Item Message)). Front a z) (sym g) f)
front_compare a b (i ∷ l) (inl f) g = inr (subst (λ (z : List (Item Message)). Front b z) (sym f) g)
front_compare a b (i ∷ l) (inr f) (inl g) = inl (subst (λ (z : List (Item Message)). Front a z) (sym g) (inr f))
front_compare a b (i ∷ l) (inr f) (inr g) = front_compare a b l f g

pub legal_front : (p : Params) (w : World Message) (me : ℕ) (a l : List (Item Message)) → Front a l → HaveCome raft p w me l → HaveCome raft p w me a
legal_front p w me a [] f g = subst (λ (z : List (Item Message)). HaveCome raft p w me z) (sym f) g
legal_front p w me a (i ∷ l) (inl f) g = subst (λ (z : List (Item Message)). HaveCome raft p w me z) (sym f) g
legal_front p w me a (i ∷ l) (inr f) g = legal_front p w me a l f g.1

pub voted_front : (p : Params) (me : ℕ) (a l : List (Item Message)) (t c : ℕ) → Front a l → VotedIn p me a t c → VotedIn p me l t c
voted_front p me a [] t c f h = subst (λ (z : List (Item Message)). VotedIn p me z t c) f h
voted_front p me a (i ∷ l) t c (inl f) h = subst (λ (z : List (Item Message)). VotedIn p me z t c) f h
voted_front p me a (i ∷ l) t c (inr f) h = inr (voted_front p me a l t c f h)

pub voted_here : (p : Params) (me : ℕ) (l : List (Item Message)) (c : ℕ) → (state p me l).vote ≡ Some c → VotedIn p me l (state p me l).term c
voted_here p me [] c e = (refl, e)
voted_here p me (i ∷ l) c e = inl (refl, e)

-- a granted vote
pub granted_vote : (p : Params) (k : ℕ) (b : List (Item Message)) (j t last lt : ℕ) → grants (raised (state p k b) t) j t last lt ≡ true → ((next p k (state p k b) (Receive (node j) (AskVote t last lt))).term ≡ t) × ((next p k (state p k b) (Receive (node j) (AskVote t last lt))).vote ≡ Some j)
granted_vote p k b j t last lt h =
    let u : State = raised (state p k b) t in
    let a = and_parts (t == (raised (state p k b) t).term) _ h in
    let e = eqb-true t (raised (state p k b) t).term a.0 in (
      ap (λ (z : Bool). (if z then answer (record (raised (state p k b) t) { vote = Some j }) j (Vote (raised (state p k b) t).term true) else answer (raised (state p k b) t) j (Vote (raised (state p k b) t).term false)).state.term) h ∙ sym e,
      ap (λ (z : Bool). (if z then answer (record (raised (state p k b) t) { vote = Some j }) j (Vote (raised (state p k b) t).term true) else answer (raised (state p k b) t) j (Vote (raised (state p k b) t).term false)).state.vote) h,
    )

-- the votes of a majority

pub record Elected (p : Params) (w : World Message) (j t : ℕ) : Type 0 where
  pub makers : ℕ → Bool
  pub majority : Majority p.setup.f makers
  pub each : (k : ℕ) → makers k ≡ true → VotedIn p k (w k) t j

pub elected_one : (p : Params) (w : World Message) (i j t : ℕ) → Elected p w i t → Elected p w j t → i ≡ j
elected_one p w i j t a b =
    let k = share p.setup.f a.makers b.makers a.majority b.majority in
    one_vote p k.0 (w k.0) t i j (a.each k.0 k.2) (b.each k.0 k.3)

abbrev pub LeadOf : Params → World Message → ℕ → ℕ → List Entry → Type 0
LeadOf p w t j m = LeadIn p j (w j) t m

abbrev pub histories : Params → World Message → ℕ → List Moment
histories p w k = moments p k (w k)

module _ (p : Params) (w : World Message) (inv : Inv p w) where
  pub vote_sent : (k j t : ℕ) → IsSent w k j (Vote t true) → VotedIn p k (w k) t j
  vote_sent k j t h =
      let q = inv.justified k j (Vote t true) h in
      go q.0 q.1 q.2
    where
      go : (l : List (Item Message)) → Front l (w k) → MaySend p k l j (Vote t true) → VotedIn p k (w k) t j
      go [] f m = elim m [ ]
      go (i ∷ b) f m =
          let e = m.2 in
          let g = granted_vote p k b j t m.0 m.1 m.3 in
          voted_front p k (i ∷ b) (w k) t j f (inl (subst (λ (z : Input Message). ((next p k (state p k b) z).term ≡ t) × ((next p k (state p k b) z).vote ≡ Some j)) (sym m.2) g))

  pub elected_from : (j : ℕ) (a : List (Item Message)) → Front a (w j) → Later p j a → Counts p j w a → p.setup.quorum ≤ count_below (state p j a).granted p.setup.n → Elected p w j (state p j a).term
  elected_from j a f h c n = record {
    makers = (state p j a).granted;
    majority = majority-is p w inv (state p j a).granted n;
    each = λ k m. elim (c.from k m) [
      | inl e ↦ subst (λ (z : ℕ). VotedIn p z (w z) (state p j a).term j) (sym e) (voted_front p j a (w j) (state p j a).term j f (voted_here p j a j h.vote))
      | inr i ↦ vote_sent k j (state p j a).term i
    ];
  }

  -- the log of a later leader or candidate is of a term above 1
  pub later_term : (j : ℕ) (a : List (Item Message)) → Later p j a → 1 < (state p j a).term
  later_term j a h = let l = h.low in let o = term_one p j h.before in omega arith

  pub elected : (j : ℕ) (a : List (Item Message)) → Front a (w j) → (state p j a).role ≡ Leader → IsFirst p j a ⊎ (Later p j a × Elected p w j (state p j a).term)
  elected j a f r = elim (origin p j a (inl r)) [
    | inl x ↦ inl x
    | inr h ↦ elim (counts p j w a (legal_front p w j a (w j) f (inv.legal j)) (inl r)) [
      | inl x ↦ inl x
      | inr c ↦ inr (h, elected_from j a f h c (c.enough r))
    ]
  ]

  pub one_lead : (t i j : ℕ) (m n : List Entry) → LeadIn p i (w i) t m → LeadIn p j (w j) t n → i ≡ j
  one_lead t i j m n h g =
      let a = lead_at p i (w i) t m h in
      let b = lead_at p j (w j) t n g in
      go a.0 b.0 a.3 b.3 (elected i a.0 a.1 a.2) (elected j b.0 b.1 b.2)
    where
      go : (a b : List (Item Message)) → (state p i a).term ≡ t → (state p j b).term ≡ t → IsFirst p i a ⊎ (Later p i a × Elected p w i (state p i a).term) → IsFirst p j b ⊎ (Later p j b × Elected p w j (state p j b).term) → i ≡ j
      go a b ea eb (inl x) (inl y) = x.own ∙ sym y.own
      go a b ea eb (inl x) (inr y) = let l = later_term j b y.0 in let e = x.term in absurd (omega arith)
      go a b ea eb (inr x) (inl y) = let l = later_term i a x.0 in let e = y.term in absurd (omega arith)
      go a b ea eb (inr x) (inr y) = elected_one p w i j t (subst (λ (z : ℕ). Elected p w i z) ea x.1) (subst (λ (z : ℕ). Elected p w j z) eb y.1)

  -- an Append that was sent has the leader's log
  pub append_sent : (j k t prev pt c : ℕ) (es : List Entry) → IsSent w j k (Append t prev pt c es) → (a : List (Item Message)) × Front a (w j) × ((state p j a).role ≡ Leader) × (t ≡ (state p j a).term) × (c ≤ (state p j a).commit) × ((front : List Entry) × ((state p j a).log ≡ front ++ es) × (length front ≡ prev) × (last_term front ≡ pt))
  append_sent j k t prev pt c es h = let q = inv.justified j k (Append t prev pt c es) h in go q.0 q.1 q.2
    where
      go : (l : List (Item Message)) → Front l (w j) → MaySend p j l k (Append t prev pt c es) → (a : List (Item Message)) × Front a (w j) × ((state p j a).role ≡ Leader) × (t ≡ (state p j a).term) × (c ≤ (state p j a).commit) × ((front : List Entry) × ((state p j a).log ≡ front ++ es) × (length front ≡ prev) × (last_term front ≡ pt))
      go [] f m = elim m [ ]
      go (i ∷ l) f m = (i ∷ l, f, m.0, m.1, m.2, m.3)

  pub append_lead : (j k t prev pt c : ℕ) (es : List Entry) → IsSent w j k (Append t prev pt c es) → (front : List Entry) × LeadIn p j (w j) t (front ++ es) × (length front ≡ prev) × (last_term front ≡ pt)
  append_lead j k t prev pt c es h =
      let q = append_sent j k t prev pt c es h in
      let x = q.5 in
      (x.0, lead_front p j q.0 (w j) t (x.0 ++ es) q.1 (subst (λ (z : ℕ). LeadIn p j q.0 z (x.0 ++ es)) (sym q.3) (subst (λ (z : List Entry). LeadIn p j q.0 (state p j q.0).term z) x.1 (lead_here p j q.0 q.2))), x.2, x.3)

  -- steps

  pub take_drop : (n : ℕ) (xs : List Entry) → xs ≡ take n xs ++ drop n xs
  take_drop zero xs = refl
  take_drop (suc n) [] = refl
  take_drop (suc n) (x ∷ xs) = ap (λ (z : List Entry). x ∷ z) (take_drop n xs)

  pub take_count : (n : ℕ) (xs : List Entry) → n ≤ length xs → length (take n xs) ≡ n
  take_count zero xs h = refl
  take_count (suc n) [] h = absurd (omega arith)
  take_count (suc n) (x ∷ xs) h = ap suc (take_count n xs (omega arith))

  pub term_last : (P : List Entry) (x : Entry) → last_term (P ++ (x ∷ [])) ≡ x.term
  term_last [] x = refl
  term_last (y ∷ []) x = refl
  term_last (y ∷ (z ∷ P)) x = term_last (z ∷ P) x

  pub previous : (P Q : List Entry) → length P ≡ length Q → last_term P ≡ last_term Q → (P ≡ []) ⊎ ((A B : List Entry) × (x y : Entry) × (P ≡ A ++ (x ∷ [])) × (Q ≡ B ++ (y ∷ [])) × (x.term ≡ y.term))
  previous [] Q l e = inl refl
  previous (x ∷ P) [] l e = absurd (omega arith)
  previous (x ∷ P) (y ∷ Q) l e =
      let a = last_of x P in
      let b = last_of y Q in
      inr (a.0, b.0, a.1, b.1, a.2, b.2, sym (term_last a.0 a.1) ∙ (sym (ap last_term a.2) ∙ (e ∙ (ap last_term b.2 ∙ term_last b.0 b.1))))

  step_of : (k : ℕ) (i : Item Message) (l : List (Item Message)) → Front (i ∷ l) (w k) → MayCome raft p w k i.input → Step (LeadOf p w) k (mom p k (i ∷ l)) (mom p k l)
  step_of k i l f m = (next_term p k (state p k l) i.input, go (change p k (state p k l) i.input))
    where
      go : Change p k (state p k l) i.input (state p k (i ∷ l)) → ((state p k (i ∷ l)).log ≡ (state p k l).log) ⊎ (Grow (LeadOf p w) k (mom p k (i ∷ l)) (mom p k l) ⊎ Copy (LeadOf p w) (mom p k (i ∷ l)) (mom p k l))
      go (keeps e) = inl e
      go (grows r own e o) = inr (inl (record { own = own; is = e; term = o; lead = lead_front p k (i ∷ l) (w k) (state p k (i ∷ l)).term (state p k (i ∷ l)).log f (lead_here p k (i ∷ l) r) }))
      go (copies j prev pt c es ei n e st el ec) =
          let q = append_lead j.0 k (state p k (i ∷ l)).term prev pt c es (subst (λ (z : Input Message). MayCome raft p w k z) ei m) in
          inr (inr (record {
            leader = j.0;
            old_front = take prev (state p k l).log;
            old_rest = drop prev (state p k l).log;
            front = q.0;
            rest = es;
            old_is = take_drop prev (state p k l).log;
            lead = q.1;
            place = take_count prev (state p k l).log n ∙ sym q.2;
            previous = previous (take prev (state p k l).log) q.0 (take_count prev (state p k l).log n ∙ sym q.2) (e ∙ sym q.3);
            is = el;
          }))

  steps_front : (k : ℕ) (l : List (Item Message)) → Front l (w k) → HaveCome raft p w k l → Steps (LeadOf p w) k (moments p k l)
  steps_front k [] f g = refl
  steps_front k (i ∷ l) f g = (step_of k i l f g.0, steps_front k l (front_trans l (i ∷ l) (w k) (inr (front_self l)) f) g.1)

  -- the last time below a term, with no change of the log after it
  below : (k t : ℕ) (b : List (Item Message)) → IsStill p k t b → (state p k b).term ≤ t → 1 < t → (d : List (Item Message)) × Front d b × ((state p k d).term < t) × ((state p k b).log ≡ (state p k d).log) × ((a : List (Item Message)) → Front a b → (state p k a).term < t → Front a d)
  below k t [] s m l = ([], refl, l, refl, λ a f q. f)
  below k t (i ∷ b) s m l = go (cases_lt (state p k (i ∷ b)).term t) (below k t b s.1)
    where
      go : ((state p k (i ∷ b)).term < t) ⊎ (t ≤ (state p k (i ∷ b)).term) → ((state p k b).term ≤ t → 1 < t → (d : List (Item Message)) × Front d b × ((state p k d).term < t) × ((state p k b).log ≡ (state p k d).log) × ((a : List (Item Message)) → Front a b → (state p k a).term < t → Front a d)) → (d : List (Item Message)) × Front d (i ∷ b) × ((state p k d).term < t) × ((state p k (i ∷ b)).log ≡ (state p k d).log) × ((a : List (Item Message)) → Front a (i ∷ b) → (state p k a).term < t → Front a d)
      go (inl q) r = (i ∷ b, inl refl, q, refl, λ a f u. f)
      go (inr q) r =
          let n = next_term p k (state p k b) i.input in
          let x = r (omega arith) l in (
            x.0,
            inr x.1,
            x.2,
            s.0 (omega arith) ∙ x.3,
            λ a f u. elim f [
              | inl e ↦ let z = ap (λ (y : List (Item Message)). (state p k y).term) e in absurd (omega arith)
              | inr f' ↦ x.4 a f' u
            ],
          )

  raised_log : (s : State) (t : ℕ) → (raised s t).log ≡ s.log
  raised_log s t = go (nat_lt s.term t)
    where
      go : (b : Bool) → (if b then record s { term = t; vote = None; role = Follower } else s).log ≡ s.log
      go true = refl
      go false = refl

  newer_self : (a : List Entry) → Newer a a
  newer_self a = record { shows = λ Q y e. (Q, y, e, inr (refl, omega arith)) }

  newer_from : (log base : List Entry) (last lt : ℕ) → last ≡ length base → lt ≡ last_term base → up_to_date log last lt ≡ true → Newer base log
  newer_from log [] last lt el et h = record { shows = λ Q y e. no Q y e }
    where
      long : (Q : List Entry) (y : Entry) → 1 ≤ length (Q ++ (y ∷ []))
      long [] y = omega arith
      long (q ∷ Q) y = omega arith

      no : (Q : List Entry) (y : Entry) → log ≡ Q ++ (y ∷ []) → (P : List Entry) × (x : Entry) × ([] ≡ P ++ (x ∷ [])) × ((y.term < x.term) ⊎ ((y.term ≡ x.term) × (length log ≤ length {A = Entry} [])))
      no Q y e = elim (or_cases (nat_lt (last_term log) lt) _ h) [
        | inl q ↦ let z = ltb-true (last_term log) lt q in absurd (omega arith)
        | inr q ↦
            let z = and_parts (last_term log == lt) (nat_le (length log) last) q in
            let u = leb-true (length log) last z.1 in
            let v = long Q y in
            let g = ap length e in
            absurd (omega arith)
      ]
  newer_from log (b ∷ bs) last lt el et h = record {
    shows = λ Q y e.
        let x = last_of b bs in
        let ly = ap last_term e ∙ term_last Q y in
        let lx = et ∙ (ap last_term x.2 ∙ term_last x.0 x.1) in (
          x.0,
          x.1,
          x.2,
          elim (or_cases (nat_lt (last_term log) lt) _ h) [
            | inl q ↦ let z = ltb-true (last_term log) lt q in inl (omega arith)
            | inr q ↦
                let z = and_parts (last_term log == lt) (nat_le (length log) last) q in
                let u = leb-true (length log) last z.1 in
                let v = eqb-true (last_term log) lt z.0 in
                inr (omega arith, omega arith)
          ],
        );
  }

  -- votes

  own_vote : (j : ℕ) (a : List (Item Message)) → Front a (w j) → (h : Later p j a) → Voted (histories p w) j (state p j a).term (state p j h.before).log
  own_vote j a f h = record {
    moment = mom p j h.before;
    before = older p j h.before;
    past = front_tail p j h.before (w j) (front_trans h.before a (w j) h.front f);
    low = h.low;
    last = λ o r t l.
        let x = tail_front p j o r (w j) t in
        let eo : o ≡ mom p j x.0 = cc in
        let et = ap (λ (z : Moment). z.term) eo in
        subst (λ (z : List Moment). Tail z (moments p j h.before)) (sym x.2) (front_tail p j x.0 h.before (elim (front_compare x.0 a (w j) x.1 f) [
          | inl q ↦ h.last x.0 q (omega arith)
          | inr q ↦ let m = front_term p j a x.0 q in absurd (omega arith)
        ]));
    newer = newer_self (state p j h.before).log;
  }

  ask_sent : (j k t last lt : ℕ) → IsSent w j k (AskVote t last lt) → (c : List (Item Message)) × Front c (w j) × ((state p j c).role ≡ Candidate) × (t ≡ (state p j c).term) × (last ≡ length (state p j c).log) × (lt ≡ last_term (state p j c).log) × CandIn p j c (state p j c).term (state p j c).log
  ask_sent j k t last lt h = let q = inv.justified j k (AskVote t last lt) h in go q.0 q.1 q.2
    where
      go : (l : List (Item Message)) → Front l (w j) → MaySend p j l k (AskVote t last lt) → (c : List (Item Message)) × Front c (w j) × ((state p j c).role ≡ Candidate) × (t ≡ (state p j c).term) × (last ≡ length (state p j c).log) × (lt ≡ last_term (state p j c).log) × CandIn p j c (state p j c).term (state p j c).log
      go [] f m = elim m [ ]
      go (i ∷ l) f m = (i ∷ l, f, m.0, m.1, m.2, m.3, inl (m.0, refl, refl))

  -- the candidate's log is what the leader's was based on
  base_log : (j : ℕ) (a c : List (Item Message)) → Front a (w j) → (state p j a).role ≡ Leader → (h : Later p j a) → Front c (w j) → (state p j c).role ≡ Candidate → (state p j c).term ≡ (state p j a).term → CandIn p j c (state p j c).term (state p j c).log → (state p j c).log ≡ (state p j h.before).log
  base_log j a c f r h g rc e q = elim (front_compare c a (w j) g f) [
    | inl x ↦ h.cands (state p j c).log (subst (λ (z : ℕ). CandIn p j a z (state p j c).log) e (cand_front p j c a (state p j c).term (state p j c).log x q))
    | inr x ↦ absurd (cand_never p j c (state p j a).log rc (lead_front p j a c (state p j c).term (state p j a).log x (subst (λ (z : ℕ). LeadIn p j a z (state p j a).log) (sym e) (lead_here p j a r))))
  ]

  other_vote : (j k : ℕ) (a : List (Item Message)) → Front a (w j) → (state p j a).role ≡ Leader → (h : Later p j a) → Ballot p w j k (state p j a).term → Voted (histories p w) k (state p j a).term (state p j h.before).log
  other_vote j k a f r h b =
      let t : ℕ = (state p j a).term in
      let lg = legal_front p w k (b.item ∷ b.before) (w k) b.front (inv.legal k) in
      let c = ask_sent j k (state p j a).term b.last b.last_term (subst (λ (z : Input Message). MayCome raft p w k z) b.asked lg.0) in
      let g = granted_vote p k b.before j (state p j a).term b.last b.last_term b.granted in
      let gt : (state p k (b.item ∷ b.before)).term ≡ (state p j a).term = subst (λ (z : Input Message). (next p k (state p k b.before) z).term ≡ (state p j a).term) (sym b.asked) g.0 in
      let n = next_term p k (state p k b.before) b.item.input in
      let d = below k (state p j a).term b.before b.still (omega arith) (later_term j a h) in
      let parts = and_parts ((state p j a).term == (raised (state p k b.before) (state p j a).term).term) _ b.granted in
      let parts2 = and_parts (free_for (raised (state p k b.before) (state p j a).term).vote j) _ parts.1 in
      let up = subst (λ (z : List Entry). up_to_date z b.last b.last_term ≡ true) (raised_log (state p k b.before) (state p j a).term ∙ d.3) parts2.1 in
      let base = base_log j a c.0 f r h c.1 c.2 (sym c.3) c.6 in
      record {
        moment = mom p k d.0;
        before = older p k d.0;
        past = front_tail p k d.0 (w k) (front_trans d.0 b.before (w k) d.1 (front_trans b.before (b.item ∷ b.before) (w k) (inr (front_self b.before)) b.front));
        low = d.2;
        last = λ o r' tl l.
            let x = tail_front p k o r' (w k) tl in
            let eo : o ≡ mom p k x.0 = cc in
            let et = ap (λ (z : Moment). z.term) eo in
            subst (λ (z : List Moment). Tail z (moments p k d.0)) (sym x.2) (front_tail p k x.0 d.0 (elim (front_compare x.0 (b.item ∷ b.before) (w k) x.1 b.front) [
              | inl (inl q) ↦ let y = ap (λ (z : List (Item Message)). (state p k z).term) q in absurd (omega arith)
              | inl (inr q) ↦ d.4 x.0 q (omega arith)
              | inr q ↦ let m = front_term p k (b.item ∷ b.before) x.0 q in absurd (omega arith)
            ]));
        newer = newer_from (state p k d.0).log (state p j h.before).log b.last b.last_term (c.4 ∙ ap length base) (c.5 ∙ ap last_term base) up;
      }

  based_of : (t j : ℕ) (m : List Entry) → LeadOf p w t j m → Based p.setup.f (histories p w) t j m
  unfolding elected_from
  based_of t j m h =
      let a = lead_at p j (w j) t m h in
      subst (λ (z : ℕ). Based p.setup.f (histories p w) z j m) a.3 (subst (λ (z : List Entry). Based p.setup.f (histories p w) (state p j a.0).term j z) a.4 (go a.0 a.1 a.2 (elected j a.0 a.1 a.2)))
    where
      first : (a : List (Item Message)) → IsFirst p j a → Based p.setup.f (histories p w) (state p j a).term j (state p j a).log
      first a x = record { base = []; own = (state p j a).log; is = refl; term = x.log; from = inl (refl, x.term) }

      go : (a : List (Item Message)) → Front a (w j) → (state p j a).role ≡ Leader → IsFirst p j a ⊎ (Later p j a × Elected p w j (state p j a).term) → Based p.setup.f (histories p w) (state p j a).term j (state p j a).log
      go a f r (inl x) = first a x
      go a f r (inr x) = elim (counts p j w a (legal_front p w j a (w j) f (inv.legal j)) (inl r)) [
        | inl y ↦ first a y
        | inr c ↦
            let h = x.0 in
            let e = elected_from j a f x.0 c (c.enough r) in
            record {
              base = (state p j h.before).log;
              own = h.own;
              is = sym h.is;
              term = h.term;
              from = inr (
                (mom p j h.before, older p j h.before, front_tail p j h.before (w j) (front_trans h.before a (w j) h.front f), h.low, refl),
                record {
                  makers = (state p j a).granted;
                  majority = e.majority;
                  each = λ k m. elim (cases_eq k j) [
                    | inl q ↦ subst (λ (z : ℕ). Voted (histories p w) z (state p j a).term (state p j h.before).log) (sym q) (own_vote j a f h)
                    | inr q ↦ other_vote j k a f r h (inv.ballots j a f r k m q)
                  ];
                },
              );
            }
      ]

  pub facts : Facts p.setup.f (LeadOf p w) (histories p w)
  facts = record {
    one = one_lead;
    chain = λ t j m n a b. lead_chain p j (w j) t m n a b;
    based = based_of;
    terms = λ t j m a. (lead_term p j (w j) t m a).1;
    steps = λ k. steps_front k (w k) (front_self (w k)) (inv.legal k);
  }

  -- if nobody leads a term, no log changes in it
  pub still_of : (t k : ℕ) → ((j : ℕ) (m : List Entry) → LeadOf p w t j m → ⊥) → (b : List (Item Message)) → Front b (w k) → HaveCome raft p w k b → IsStill p k t b
  still_of t k none [] f g = tt
  still_of t k none (i ∷ b) f g = (λ e. go e (change p k (state p k b) i.input), still_of t k none b (front_trans b (i ∷ b) (w k) (inr (front_self b)) f) g.1)
    where
      go : (state p k (i ∷ b)).term ≡ t → Change p k (state p k b) i.input (state p k (i ∷ b)) → (state p k (i ∷ b)).log ≡ (state p k b).log
      go e (keeps q) = q
      go e (grows r own q o) = absurd (none k (state p k (i ∷ b)).log (subst (λ (z : ℕ). LeadOf p w z k (state p k (i ∷ b)).log) e (lead_front p k (i ∷ b) (w k) (state p k (i ∷ b)).term (state p k (i ∷ b)).log f (lead_here p k (i ∷ b) r))))
      go e (copies j prev pt c es ei n l st el ec) =
          let q = append_lead j.0 k (state p k (i ∷ b)).term prev pt c es (subst (λ (z : Input Message). MayCome raft p w k z) ei g.0) in
          absurd (none j.0 (q.0 ++ es) (subst (λ (z : ℕ). LeadOf p w z j.0 (q.0 ++ es)) e q.1))
