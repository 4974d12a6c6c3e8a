-- A node accepts at most one batch at a slot: it accepts only while it leads term 1, and then its log fills one more
-- slot.
use Rattle.std.proofs.Common.{◌≡◌, ℕ, zero, suc, ◌+◌, ◌<◌, ◌≤◌, Bool, true, false, cond, if◌then◌else◌, List, [], ◌∷◌, ◌++◌, refl, sym, subst, ap, ◌∙◌, inl, inr, Some, arith, true≢false}
use Rattle.std.specs.Prelude.{◌==◌}
use Rattle.iss_base.specs.Lists.{In, nth}
use Rattle.iss_base.proofs.Lists.{is-eq, some-injective}
use Rattle.iss_request.specs.Slots.{AreAscending}
use Rattle.iss_request.specs.declared.ids.Slot.{Slot}
use Rattle.iss_request.specs.declared.requests.Batch.{Batch}
use Rattle.iss_sb.specs.declared.effects.Input.{Input}
use Rattle.iss_sb.specs.declared.effects.Input.TheVariants.{Cast, Receive, Timeout}
use Rattle.iss_sb.specs.declared.effects.Params.{Params}
use Rattle.iss_sb.specs.Calls.{IsGoodParams, is_slot}
use Rattle.iss_sb.specs.Evidence.{Item, Made, World, IsReached, accepts}
use Rattle.iss_sb.specs.Legal.{AreMade}
use Rattle.iss_sb.specs.Laws.{AcceptsOnce}
use Rattle.iss_sb.proofs.Legal.{legal-reached, once-made}
use Rattle.iss_sb.proofs.Worlds.{accepts-cases}
use Rattle.iss_sb.specs.declared.content.Content.TheVariants.{Holds}
use Rattle.raft_wire.specs.declared.messages.Message.{Message}
use Rattle.sb_raft.specs.Facts.{AreOnce}
use Rattle.sb_raft.specs.Logs.{entry, filled}
use Rattle.sb_raft.specs.Raft.{asks, raft, state}
use Rattle.sb_raft.specs.Rules.{Follower, Candidate, Leader, State, Step, appends, may_cast, on_cast, quiet, spread, step}
use Rattle.sb_raft.proofs.AcceptedBatches.LeaderAcceptedBatches.{cl, fl, no-role}
use Rattle.sb_raft.proofs.StateChanges.TermVoteRoleLog.{Turn, follows, stands, runs, rules, wins, wins_alone, turn, cast-parts}
use Rattle.sb_raft.proofs.ModuleLaws.LogLengthIsBounded.{filled-both}
use Rattle.sb_raft.proofs.Safety.NodeHistories.{term_one}
use Rattle.sb_raft.proofs.ModuleLaws.StepsAreLawful.{some-only}
use Rattle.sb_raft.proofs.StateChanges.StepCases.{advanced-state, with_cast}

-- ---- Slots are strictly ascending, so a slot has one place

above : (low k : ℕ) (ss : List Slot) (n : ℕ) → AreAscending low ss → is_slot k (nth ss n) ≡ true → low ≤ k
above low k [] n h e = absurd (true≢false (sym e))
above low k (t ∷ ss) zero h e = omega (arith, h.0, is-eq t.0 k e)
above low k (t ∷ ss) (suc n) h e = omega (arith, h.0, above (suc t.0) k ss n h.1 e)

one-place : (low k : ℕ) (ss : List Slot) (m n : ℕ) → AreAscending low ss → is_slot k (nth ss m) ≡ true → is_slot k (nth ss n) ≡ true → m ≡ n
one-place low k [] m n h e f = absurd (true≢false (sym e))
one-place low k (t ∷ ss) zero zero h e f = refl
one-place low k (t ∷ ss) zero (suc n) h e f = absurd (omega (arith, is-eq t.0 k e, above (suc t.0) k ss n h.1 f))
one-place low k (t ∷ ss) (suc m) zero h e f = absurd (omega (arith, is-eq t.0 k f, above (suc t.0) k ss m h.1 e))
one-place low k (t ∷ ss) (suc m) (suc n) h e f = ap suc (one-place (suc t.0) k ss m n h.1 e f)

-- ---- Batches that are offered

asked : (p : Params) (me : ℕ) (l : List (Item Message)) (i : Input Message) (s : Slot) (b : Batch) → asks p me l i ≡ Some (s, b) → (i ≡ Cast s b) × (may_cast p (state p me l) s.0 ≡ true)
asked p me l (Cast c d) s b h =
    let t = some-only (may_cast p (state p me l) c.0) (c, d) (s, b) h in
    (ap (λ (x : Slot × Batch). Cast x.0 x.1) (sym t.1), subst (λ (x : Slot × Batch). may_cast p (state p me l) x.0.0 ≡ true) (sym t.1) t.0)
asked p me l (Receive from msg) s b h = absurd cc
asked p me l Timeout s b h = absurd cc

-- a cast that is taken fills one more slot
cast-log : (p : Params) (me : ℕ) (s : State) (slot : ℕ) (b : Batch) → may_cast p s slot ≡ true → (on_cast p me s slot b).state.log ≡ s.log ++ entry s.term (Holds b) ∷ []
cast-log p me s slot b h =
    ap (λ (z : Bool). (let r : Step = if z then spread p me (with_cast s b) else quiet s in r).state.log) h
    ∙ ap (λ (z : State). z.log) (advanced-state p me (record { state = with_cast s b; sends = appends p me (with_cast s b) }))

cast-fills : (p : Params) (me : ℕ) (s : State) (slot : ℕ) (b : Batch) → may_cast p s slot ≡ true → filled (on_cast p me s slot b).state.log ≡ filled s.log + 1
cast-fills p me s slot b h = ap filled (cast-log p me s slot b h) ∙ filled-both s.log (entry s.term (Holds b) ∷ [])

-- ---- The leader of term 1 was never a candidate

fc : Follower ≡ Candidate → ⊥
fc h = cc

lc : Leader ≡ Candidate → ⊥
lc h = cc

stood-later : (p : Params) (me : ℕ) (l : List (Item Message)) → (state p me l).role ≡ Candidate → 1 < (state p me l).term
stood-later p me [] r = absurd (no (me == p.leader.0) r)
  where
    no : (b : Bool) → cond b Leader Follower ≡ Candidate → ⊥
    no true h = cc
    no false h = cc
stood-later p me (y ∷ l) r = go (turn p me (state p me l) y.input) (stood-later p me l)
  where
    go : Turn p me (state p me l) y.input (state p me (y ∷ l)) → ((state p me l).role ≡ Candidate → 1 < (state p me l).term) → 1 < (state p me (y ∷ l)).term
    go (follows a) ih = no-role (state p me (y ∷ l)).role Follower Candidate _ a r fc
    go (stands a b t lg g) ih = omega (arith, ih b, t)
    go (runs a lt lg v g) ih = omega (arith, term_one p me l, lt)
    go (rules a b t own lg o g) ih = no-role (state p me (y ∷ l)).role Leader Candidate _ a r lc
    go (wins a b t j e g n own lg o) ih = no-role (state p me (y ∷ l)).role Leader Candidate _ a r lc
    go (wins_alone a lt g v n own lg o) ih = no-role (state p me (y ∷ l)).role Leader Candidate _ a r lc

-- ---- While the node leads term 1, each accepted slot is filled

abbrev IsFilled : Params → ℕ → List (Item Message) → ℕ → Type 0
IsFilled p me l slot = (n : ℕ) × ((n < filled (state p me l).log) × (is_slot slot (nth p.slots n) ≡ true))

accepted-of : (p : Params) (me : ℕ) (y : Item Message) (l : List (Item Message)) (s : Slot) (b : Batch) → AreMade raft p me (y ∷ l) → y.made.accepted ≡ Some (s, b) → (y.input ≡ Cast s b) × (may_cast p (state p me l) s.0 ≡ true)
accepted-of p me y l s b m e = asked p me l y.input s b (sym (ap (λ (z : Made Message). z.accepted) m.0) ∙ e)

new-filled : (p : Params) (me : ℕ) (y : Item Message) (l : List (Item Message)) (s : Slot) (b : Batch) → AreMade raft p me (y ∷ l) → y.made.accepted ≡ Some (s, b) → IsFilled p me (y ∷ l) s.0
new-filled p me y l s b m e =
    let a = accepted-of p me y l s b m e in
    let more : filled (state p me (y ∷ l)).log ≡ filled (state p me l).log + 1 =
    subst (λ (i : Input Message). filled (step p me (state p me l) i).state.log ≡ filled (state p me l).log + 1) (sym a.0) (cast-fills p me (state p me l) s.0 b a.1) in
    (filled (state p me l).log, (omega (arith, more), (cast-parts p (state p me l) s.0 a.1).next))

filled-so-far : (p : Params) (me : ℕ) (l : List (Item Message)) → AreMade raft p me l → (s : Slot) (b : Batch) → In {A = Slot × Batch} (s, b) (accepts l) → (state p me l).role ≡ Leader → (state p me l).term ≡ 1 → IsFilled p me l s.0
filled-so-far p me [] m s b i r t = absurd i
filled-so-far p me (y ∷ l) m s b i r t = elim (accepts-cases y l (s, b) i) [
  | inl now ↦ new-filled p me y l s b m now
  | inr old ↦ go (turn p me (state p me l) y.input) (filled-so-far p me l m.1 s b old)
]
  where
    go : Turn p me (state p me l) y.input (state p me (y ∷ l)) → ((state p me l).role ≡ Leader → (state p me l).term ≡ 1 → IsFilled p me l s.0) → IsFilled p me (y ∷ l) s.0
    go (follows a) ih = no-role (state p me (y ∷ l)).role Follower Leader _ a r fl
    go (stands a b t' lg g) ih = no-role (state p me (y ∷ l)).role Candidate Leader _ a r cl
    go (runs a lt lg v g) ih = no-role (state p me (y ∷ l)).role Candidate Leader _ a r cl
    go (rules a b' t' own lg o g) ih =
        let was = ih b' (t' ∙ t) in
        let more = ap filled lg ∙ filled-both (state p me l).log own in
        (was.0, (omega (arith, was.1.0, more), was.1.1))
    go (wins a b' t' j e g n own lg o) ih = absurd (omega (arith, stood-later p me l b', t', t))
    go (wins_alone a lt g v n own lg o) ih = absurd (omega (arith, term_one p me l, lt, t))

-- no batch is accepted at a slot that is filled
fresh : (p : Params) (me : ℕ) (y : Item Message) (l : List (Item Message)) (s : Slot) (b c : Batch) → AreAscending 0 p.slots → AreMade raft p me (y ∷ l) → y.made.accepted ≡ Some (s, b) → In {A = Slot × Batch} (s, c) (accepts l) → ⊥
fresh p me y l s b c ascending m e i =
    let a = accepted-of p me y l s b m e in
    let parts = cast-parts p (state p me l) s.0 a.1 in
    let was = filled-so-far p me l m.1 s c i parts.leads parts.first in
    absurd (omega (arith, was.1.0, one-place 0 s.0 p.slots was.0 (filled (state p me l).log) ascending was.1.1 parts.next))

once : (p : Params) (me : ℕ) (l : List (Item Message)) → AreAscending 0 p.slots → AreMade raft p me l → (s : Slot) (b c : Batch) → In {A = Slot × Batch} (s, b) (accepts l) → In {A = Slot × Batch} (s, c) (accepts l) → b ≡ c
once p me [] ascending m s b c h k = absurd h
once p me (y ∷ l) ascending m s b c h k = elim (accepts-cases y l (s, b) h) [
  | inl q ↦ elim (accepts-cases y l (s, c) k) [
    | inl r ↦ ap (λ (z : Slot × Batch). z.1) (some-injective {A = Slot × Batch} (s, b) (s, c) (sym q ∙ r))
    | inr z ↦ absurd (fresh p me y l s b c ascending m q z)
  ]
  | inr x ↦ elim (accepts-cases y l (s, c) k) [
    | inl r ↦ absurd (fresh p me y l s c b ascending m r x)
    | inr z ↦ once p me l ascending m.1 s b c x z
  ]
]

pub accepted-once : (p : Params) (w : World Message) → IsGoodParams raft p → IsReached raft p w → AreOnce p w
accepted-once p w good reached i s b c h k = once p i (w i) good.ascending ((legal-reached raft p w reached).made i) s b c h k

pub raft-accepts-once : AcceptsOnce raft
raft-accepts-once = once-made raft (λ p me xs good made. once p me xs good.ascending made)
