-- A leader's match indices are what other nodes replied while it led the term.
use Rattle.std.proofs.Common.{◌≡◌, ℕ, ◌≤◌, ◌==◌, ◌&&◌, ◌||◌, not, Bool, true, false, cond, if◌then◌else◌, List, [], ◌∷◌, length, refl, sym, subst, ap, ◌∙◌, inl, inr, ◌⊎◌, true≢false, eq-eqb, arith}
use Rattle.std.specs.Prelude.{max, nat_le, nat_lt}
use Rattle.std.proofs.lemmas.Bool.{and_parts, cases_lt, eqb-true, le-leb, leb-true, ltb-true, or_cases}
use Rattle.iss_base.specs.Lists.{set_at}
use Rattle.iss_base.proofs.Lists.{both}
use Rattle.iss_base.proofs.Quorum.{or_right_true}
use Rattle.iss_request.specs.declared.ids.NodeId.{NodeId}
use Rattle.iss_sb.specs.declared.effects.Input.{Input}
use Rattle.iss_sb.specs.declared.effects.Input.TheVariants.{Cast, Receive, Timeout}
use Rattle.iss_sb.specs.declared.effects.Params.{Params}
use Rattle.iss_sb.specs.Evidence.{Item}
use Rattle.raft_wire.specs.declared.entries.Entry.{Entry}
use Rattle.raft_wire.specs.declared.messages.Message.{Message}
use Rattle.raft_wire.specs.declared.messages.Message.TheVariants.{Append, Reply, AskVote, Vote}
use Rattle.sb_raft.specs.Committed.{another_answered, has_answered, is_answer, leads_term}
use Rattle.sb_raft.specs.Raft.{raft_log, state}
use Rattle.sb_raft.specs.Rules.{Role, Follower, Candidate, Leader, State, Step, advanced, is_leader, on_ok, on_reply, quiet, raised}
use Rattle.sb_raft.proofs.StateChanges.TermVoteRoleLog.{Turn, follows, stands, runs, rules, wins, wins_alone, term_level, turn}
use Rattle.sb_raft.proofs.Safety.NodeHistories.{LeadIn, cand_never, lead_here, lead_term}
use Rattle.sb_raft.proofs.StateChanges.StepCases.{Raise, leader_is, level, higher, next, up, advanced-state, with_match, Handled, none, down, copy, reply, back, grant, voted, win, casts, times, alone, Next, next_cases}

pub same-is : (a b : ℕ) → a ≡ b → (a == b) ≡ true
same-is a b e = eq-eqb a b e

pub leads-is : (r : Role) → r ≡ Leader → is_leader r ≡ true
leads-is r e = ap is_leader e

-- no node has two roles
pub no-role : (r a b : Role) (A : Type 0) → r ≡ a → r ≡ b → is_leader a ≡ false → is_leader b ≡ true → A
no-role r a b A h k f t = absurd (true≢false (sym t ∙ (ap is_leader (sym k ∙ h) ∙ f)))

pub or_left_true : (a b : Bool) → a ≡ true → (a || b) ≡ true
or_left_true a b e = ap (λ (z : Bool). z || b) e

-- the fields of such a Reply
record IsAnswer (t i k long : ℕ) (input : Input Message) : Type 0 where
  pub from : NodeId
  pub index : ℕ
  pub came : input ≡ Receive from (Reply t true index)
  pub who : from.0 ≡ k
  pub above : i ≤ index
  pub within : index ≤ long

answer-parts : (t i k long : ℕ) (input : Input Message) → is_answer t i k long input ≡ true → IsAnswer t i k long input
answer-parts t i k long (Cast slot batch) h = absurd (true≢false (sym h))
answer-parts t i k long (Receive from (Append term previous previous_term commit es)) h = absurd (true≢false (sym h))
answer-parts t i k long (Receive from (AskVote term last last_term)) h = absurd (true≢false (sym h))
answer-parts t i k long (Receive from (Vote term granted)) h = absurd (true≢false (sym h))
answer-parts t i k long Timeout h = absurd (true≢false (sym h))
answer-parts t i k long (Receive from (Reply term false index)) h = absurd (true≢false (sym h))
answer-parts t i k long (Receive from (Reply term true index)) h =
    let a = and_parts (from.0 == k) ((term == t) && (nat_le i index && nat_le index long)) h in
    let b = and_parts (term == t) (nat_le i index && nat_le index long) a.1 in
    let c = and_parts (nat_le i index) (nat_le index long) b.1 in
    record {
      from = from;
      index = index;
      came = ap (λ (z : ℕ). Receive from (Reply z true index)) (eqb-true term t b.0);
      who = eqb-true from.0 k a.0;
      above = leb-true i index c.0;
      within = leb-true index long c.1;
    }

answer-is : (t i k long : ℕ) (input : Input Message) → IsAnswer t i k long input → is_answer t i k long input ≡ true
answer-is t i k long input a =
    let e = both (a.from.0 == k) ((t == t) && (nat_le i a.index && nat_le a.index long)) (same-is a.from.0 k a.who) (both (t == t) (nat_le i a.index && nat_le a.index long) (same-is t t refl) (both (nat_le i a.index) (nat_le a.index long) (le-leb i a.index a.above) (le-leb a.index long a.within))) in
    subst (λ (z : Input Message). is_answer t i k long z ≡ true) (sym a.came) e

-- ---- One step

raised-same : (s : State) → raised s s.term ≡ s
raised-same s = go (nat_lt s.term s.term) refl
  where
    go : (b : Bool) → nat_lt s.term s.term ≡ b → raised s s.term ≡ s
    go true q = let l = ltb-true s.term s.term q in absurd (omega (arith, l))
    go false q = rw q refl

set-here : (g : ℕ → ℕ) (j x k : ℕ) → j ≡ k → set_at g j x k ≡ x
set-here g j x k e = ap (λ (b : Bool). cond b x (g k)) (same-is k j (sym e))

-- a Reply of another node counts at once
answers-now : (p : Params) (me : ℕ) (s : State) (i k : ℕ) (input : Input Message) → s.role ≡ Leader → not (k == me) ≡ true → is_answer s.term i k (length s.log) input ≡ true → i ≤ (next p me s input).matched k
answers-now p me s i k input r ne h =
    let a = answer-parts s.term i k (length s.log) input h in
    let j = a.from in
    let x = a.index in
    let u : State = with_match s j.0 x in
    let other : not (j.0 == me) ≡ true = subst (λ (z : ℕ). not (z == me) ≡ true) (sym a.who) ne in
    let may = both (is_leader s.role && (s.term == s.term)) (not (j.0 == me)) (both (is_leader s.role) (s.term == s.term) (leads-is s.role r) (same-is s.term s.term refl)) other in
    let first : on_reply p me s j.0 s.term true x ≡ on_ok p me s j.0 x = ap (λ (b : Bool). if b then on_ok p me s j.0 x else quiet s) may in
    let second : on_ok p me s j.0 x ≡ advanced p me (quiet u) = ap (λ (b : Bool). if b then advanced p me (quiet u) else quiet s) (le-leb x (length s.log) a.within) in
    let made : (next p me s input).matched ≡ u.matched =
    ap (λ (z : Input Message). (next p me s z).matched) a.came
    ∙ (ap (λ (z : State). (on_reply p me z j.0 s.term true x).state.matched) (raised-same s)
    ∙ (ap (λ (z : Step). z.state.matched) first ∙ (ap (λ (z : Step). z.state.matched) second ∙ ap (λ (z : State). z.matched) (advanced-state p me (quiet u))))) in
    let at : (next p me s input).matched k ≡ max (s.matched j.0) x = ap (λ (g : ℕ → ℕ). g k) made ∙ set-here s.matched j.0 (max (s.matched j.0) x) k a.who in
    let above = a.above in
    omega (arith, at, above)

set-rises : (g : ℕ → ℕ) (j x k : ℕ) → g k ≤ set_at g j (max (g j) x) k
set-rises g j x k = go (k == j) refl
  where
    go : (b : Bool) → (k == j) ≡ b → g k ≤ cond b (max (g j) x) (g k)
    go true q = let e = ap g (eqb-true k j q) in omega (arith, e)
    go false q = omega arith

-- a leader's match indices never decrease while it leads
matches-rise : (p : Params) (me : ℕ) (s : State) (i : Input Message) (v : State) → s.role ≡ Leader → v.role ≡ Leader → Handled p me s i v → (k : ℕ) → s.matched k ≤ v.matched k
matches-rise p me s i v r q (none e) k = let m = ap (λ (z : State). z.matched k) e in omega (arith, m)
matches-rise p me s i v r q (down e) k = no-role v.role Follower Leader _ (ap (λ (z : State). z.role) e) q refl refl
matches-rise p me s i v r q (copy j prev pt c es ei f fm e) k = no-role v.role Follower Leader _ (ap (λ (z : State). z.role) e) q refl refl
matches-rise p me s i v r q (reply j x ei rl ne lx e) k = let m = ap (λ (z : State). z.matched k) e in let u = set-rises s.matched j.0 x k in omega (arith, m, u)
matches-rise p me s i v r q (back j x ei rl nx lx e) k = let m = ap (λ (z : State). z.matched k) e in omega (arith, m)
matches-rise p me s i v r q (grant j last lt ei g e) k = let m = ap (λ (z : State). z.matched k) e in omega (arith, m)
matches-rise p me s i v r q (voted j ei rl e) k = no-role s.role Candidate Leader _ rl r refl refl
matches-rise p me s i v r q (win j ei rl n e) k = no-role s.role Candidate Leader _ rl r refl refl
matches-rise p me s i v r q (casts n x ei mc e) k = let m = ap (λ (z : State). z.matched k) e in omega (arith, m)
matches-rise p me s i v r q (times ei f e) k = absurd (true≢false (sym (leads-is s.role r) ∙ f))
matches-rise p me s i v r q (alone ei f n e) k = absurd (true≢false (sym (leads-is s.role r) ∙ f))

-- the origin of a match index
data Comes (p : Params) (me : ℕ) (s : State) (i : Input Message) (v : State) (k : ℕ) : Type 0 where
  anew : v.matched k ≡ 0 → Comes p me s i v k
  stays : s.role ≡ Leader → s.term ≡ v.term → v.matched k ≡ s.matched k → Comes p me s i v k
  now : (j : NodeId) (x : ℕ) → i ≡ Receive j (Reply v.term true x) → s.role ≡ Leader → s.term ≡ v.term → j.0 ≡ k → (k ≡ me → ⊥) → x ≤ length s.log → v.matched k ≡ x → Comes p me s i v k

set-comes : (g : ℕ → ℕ) (j x k : ℕ) → (set_at g j (max (g j) x) k ≡ g k) ⊎ ((j ≡ k) × (set_at g j (max (g j) x) k ≡ x))
set-comes g j x k = go (k == j) refl
  where
    go : (b : Bool) → (k == j) ≡ b → (cond b (max (g j) x) (g k) ≡ g k) ⊎ ((j ≡ k) × (cond b (max (g j) x) (g k) ≡ x))
    go false q = inl refl
    go true q = let e = eqb-true k j q in let ge = ap g e in by (nat_le x (g j)) refl e ge
      where
        by : (c : Bool) → nat_le x (g j) ≡ c → k ≡ j → g k ≡ g j → (max (g j) x ≡ g k) ⊎ ((j ≡ k) × (max (g j) x ≡ x))
        by true l e ge = let le = leb-true x (g j) l in inl (omega (arith, le, ge))
        by false l e ge = elim (cases_lt (g j) x) [ inl lt ↦ inr (sym e, omega (arith, lt)) | inr le ↦ inl (omega (arith, le, ge)) ]

comes-level : (p : Params) (me : ℕ) (s : State) (i : Input Message) (v : State) → v.role ≡ Leader → Handled p me s i v → (k : ℕ) → Comes p me s i v k
comes-level p me s i v q (none e) k = stays (sym (ap (λ (z : State). z.role) e) ∙ q) (sym (ap (λ (z : State). z.term) e)) (ap (λ (z : State). z.matched k) e)
comes-level p me s i v q (down e) k = no-role v.role Follower Leader _ (ap (λ (z : State). z.role) e) q refl refl
comes-level p me s i v q (copy j prev pt c es ei f fm e) k = no-role v.role Follower Leader _ (ap (λ (z : State). z.role) e) q refl refl
comes-level p me s i v q (reply j x ei rl ne lx e) k =
    let t : v.term ≡ s.term = ap (λ (z : State). z.term) e in
    let m : v.matched k ≡ set_at s.matched j.0 (max (s.matched j.0) x) k = ap (λ (z : State). z.matched k) e in
    elim (set-comes s.matched j.0 x k) [
      | inl y ↦ stays rl (sym t) (m ∙ y)
      | inr y ↦ now j x (subst (λ (z : ℕ). i ≡ Receive j (Reply z true x)) (sym t) ei) rl (sym t) y.0 (λ z. ne (y.0 ∙ z)) lx (m ∙ y.1)
    ]
comes-level p me s i v q (back j x ei rl nx lx e) k = stays rl (sym (ap (λ (z : State). z.term) e)) (ap (λ (z : State). z.matched k) e)
comes-level p me s i v q (grant j last lt ei g e) k = stays (sym (ap (λ (z : State). z.role) e) ∙ q) (sym (ap (λ (z : State). z.term) e)) (ap (λ (z : State). z.matched k) e)
comes-level p me s i v q (voted j ei rl e) k = no-role v.role Candidate Leader _ (ap (λ (z : State). z.role) e ∙ rl) q refl refl
comes-level p me s i v q (win j ei rl n e) k = anew (ap (λ (z : State). z.matched k) e)
comes-level p me s i v q (casts n x ei mc e) k = stays (sym (ap (λ (z : State). z.role) e) ∙ q) (sym (ap (λ (z : State). z.term) e)) (ap (λ (z : State). z.matched k) e)
comes-level p me s i v q (times ei f e) k = no-role v.role Candidate Leader _ (ap (λ (z : State). z.role) e) q refl refl
comes-level p me s i v q (alone ei f n e) k = anew (ap (λ (z : State). z.matched k) e)

-- a step that raised the term started from a follower
module _ (p : Params) (me : ℕ) (s : State) (i : Input Message) where
  level-of : (A : Type 0) → s.role ≡ Leader → (next p me s i).term ≡ s.term → (Handled p me s i (next p me s i) → A) → A
  level-of A r t f = go (next_cases p me s i)
    where
      go : Next p me s i (next p me s i) → A
      go n = by n.mid n.raise n.handled
        where
          by : (u : State) → Raise s u → Handled p me u i (next p me s i) → A
          by u (level e) h = f (subst (λ (z : State). Handled p me z i (next p me s i)) e h)
          by u (higher c l e) h =
              let ut = ap (λ (z : State). z.term) e in
              let up = term_level p me u i (next p me s i) h in
              absurd (omega (arith, l, ut, up, t))

  comes : (next p me s i).role ≡ Leader → (k : ℕ) → Comes p me s i (next p me s i) k
  comes q k = go (next_cases p me s i)
    where
      go : Next p me s i (next p me s i) → Comes p me s i (next p me s i) k
      go n = by n.mid n.raise n.handled
        where
          by : (u : State) → Raise s u → Handled p me u i (next p me s i) → Comes p me s i (next p me s i) k
          by u (level e) h = comes-level p me s i (next p me s i) q (subst (λ (z : State). Handled p me z i (next p me s i)) e h) k
          by u (higher c l e) h = old u e (comes-level p me u i (next p me s i) q h k)
            where
              old : (u : State) → u ≡ up s c → Comes p me u i (next p me s i) k → Comes p me s i (next p me s i) k
              old u e (anew m) = anew m
              old u e (stays r t m) = no-role u.role Follower Leader _ (ap (λ (z : State). z.role) e) r refl refl
              old u e (now j x ei r t w ne lx m) = no-role u.role Follower Leader _ (ap (λ (z : State). z.role) e) r refl refl

-- ---- All entries of a history

module _ (p : Params) (me : ℕ) where
  -- the Reply was received by the leader of the term
  answered-led : (t i k : ℕ) (xs : List (Item Message)) → has_answered p me t i xs k ≡ true → (m : List Entry) × LeadIn p me xs t m
  answered-led t i k [] h = absurd (true≢false (sym h))
  answered-led t i k (x ∷ xs) h = elim (or_cases (leads_term p me xs t && is_answer t i k (length (raft_log p me xs)) x.input) (has_answered p me t i xs k) h) [
    | inl a ↦
        let b = and_parts (leads_term p me xs t) (is_answer t i k (length (raft_log p me xs)) x.input) a in
        let c = and_parts (is_leader (state p me xs).role) ((state p me xs).term == t) b.0 in
        let here = lead_here p me xs (leader_is (state p me xs).role c.0) in
        ((state p me xs).log, inr (subst (λ (z : ℕ). LeadIn p me xs z (state p me xs).log) (eqb-true (state p me xs).term t c.1) here))
    | inr a ↦ let r = answered-led t i k xs a in (r.0, inr r.1)
  ]

  -- a Reply at or above an index raises the match index to it
  pub answered-matched : (xs : List (Item Message)) (i k : ℕ) → (state p me xs).role ≡ Leader → not (k == me) ≡ true → has_answered p me (state p me xs).term i xs k ≡ true → i ≤ (state p me xs).matched k
  answered-matched [] i k r ne h = absurd (true≢false (sym h))
  answered-matched (x ∷ xs) i k r ne h =
      elim (or_cases (leads_term p me xs (state p me (x ∷ xs)).term && is_answer (state p me (x ∷ xs)).term i k (length (raft_log p me xs)) x.input) (has_answered p me (state p me (x ∷ xs)).term i xs k) h) [
        | inl a ↦
            let b = and_parts (leads_term p me xs (state p me (x ∷ xs)).term) (is_answer (state p me (x ∷ xs)).term i k (length (raft_log p me xs)) x.input) a in
            let c = and_parts (is_leader (state p me xs).role) ((state p me xs).term == (state p me (x ∷ xs)).term) b.0 in
            let same = eqb-true (state p me xs).term (state p me (x ∷ xs)).term c.1 in
            answers-now p me (state p me xs) i k x.input (leader_is (state p me xs).role c.0) ne (subst (λ (z : ℕ). is_answer z i k (length (raft_log p me xs)) x.input ≡ true) (sym same) b.1)
        | inr a ↦ old (answered-matched xs i k) (answered-led (state p me (x ∷ xs)).term i k xs a) a (turn p me (state p me xs) x.input)
      ]
    where
      old : ((state p me xs).role ≡ Leader → not (k == me) ≡ true → has_answered p me (state p me xs).term i xs k ≡ true → i ≤ (state p me xs).matched k) → (m : List Entry) × LeadIn p me xs (state p me (x ∷ xs)).term m → has_answered p me (state p me (x ∷ xs)).term i xs k ≡ true → Turn p me (state p me xs) x.input (state p me (x ∷ xs)) → i ≤ (state p me (x ∷ xs)).matched k
      old ih l a (follows e) = no-role (state p me (x ∷ xs)).role Follower Leader _ e r refl refl
      old ih l a (stands e b c d f) = no-role (state p me (x ∷ xs)).role Candidate Leader _ e r refl refl
      old ih l a (runs e b c d f) = no-role (state p me (x ∷ xs)).role Candidate Leader _ e r refl refl
      old ih l a (rules e b c own f g o) =
          let before = ih b ne (subst (λ (z : ℕ). has_answered p me z i xs k ≡ true) (sym c) a) in
          let rise = level-of p me (state p me xs) x.input ((state p me xs).matched k ≤ (state p me (x ∷ xs)).matched k) b (sym c) (λ h. matches-rise p me (state p me xs) x.input (state p me (x ∷ xs)) b r h k) in
          omega (arith, before, rise)
      old ih l a (wins e b c j f g n own o q) = absurd (cand_never p me xs l.0 b (subst (λ (z : ℕ). LeadIn p me xs z l.0) (sym c) l.1))
      old ih l a (wins_alone e b c d n own f o) = let low = (lead_term p me xs (state p me (x ∷ xs)).term l.0 l.1).0 in absurd (omega (arith, low, b))

  -- each match index was replied
  pub matched-answered : (xs : List (Item Message)) (i k : ℕ) → (state p me xs).role ≡ Leader → 1 ≤ i → i ≤ (state p me xs).matched k → another_answered p me (state p me xs).term i xs k ≡ true
  matched-answered [] i k r one h = absurd (omega (arith, one, h))
  matched-answered (x ∷ xs) i k r one h = go (matched-answered xs i k) (comes p me (state p me xs) x.input r k)
    where
      later : not (k == me) ≡ true → has_answered p me (state p me (x ∷ xs)).term i (x ∷ xs) k ≡ true → another_answered p me (state p me (x ∷ xs)).term i (x ∷ xs) k ≡ true
      later a b = both (not (k == me)) (has_answered p me (state p me (x ∷ xs)).term i (x ∷ xs) k) a b

      not-me : (k ≡ me → ⊥) → not (k == me) ≡ true
      not-me ne = by (k == me) refl
        where
          by : (b : Bool) → (k == me) ≡ b → not b ≡ true
          by true q = absurd (ne (eqb-true k me q))
          by false q = refl

      go : ((state p me xs).role ≡ Leader → 1 ≤ i → i ≤ (state p me xs).matched k → another_answered p me (state p me xs).term i xs k ≡ true) → Comes p me (state p me xs) x.input (state p me (x ∷ xs)) k → another_answered p me (state p me (x ∷ xs)).term i (x ∷ xs) k ≡ true
      go ih (anew m) = absurd (omega (arith, one, h, m))
      go ih (stays b c m) =
          let before = ih b one (omega (arith, h, m)) in
          let parts = and_parts (not (k == me)) (has_answered p me (state p me xs).term i xs k) before in
          later parts.0 (or_right_true _ _ (subst (λ (z : ℕ). has_answered p me z i xs k ≡ true) c parts.1))
      go ih (now j y ei b c who ne lx m) =
          let is = answer-is (state p me (x ∷ xs)).term i k (length (raft_log p me xs)) x.input (record { from = j; index = y; came = ei; who = who; above = omega (arith, h, m); within = lx }) in
          let led = both (is_leader (state p me xs).role) ((state p me xs).term == (state p me (x ∷ xs)).term) (leads-is (state p me xs).role b) (same-is (state p me xs).term (state p me (x ∷ xs)).term c) in
          later (not-me ne) (or_left_true _ _ (both (leads_term p me xs (state p me (x ∷ xs)).term) (is_answer (state p me (x ∷ xs)).term i k (length (raft_log p me xs)) x.input) led is))
