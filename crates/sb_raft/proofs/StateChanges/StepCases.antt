-- How a step changes the state, by cases.
use Rattle.std.proofs.Common.{◌≡◌, ℕ, zero, suc, ◌+◌, ◌-◌, ◌<◌, ◌≤◌, Bool, true, false, ◌&&◌, ◌==◌, not, if◌then◌else◌, List, [], ◌∷◌, ◌++◌, length, refl, subst, ap, Some, None, arith}
use Rattle.std.specs.Prelude.{nat_lt, nat_le, max, min}
use Rattle.std.proofs.lemmas.Bool.{eqb-true, eqb-false, ltb-true, leb-true, and_parts, not-true, false≢true, lt-ltb}
use Rattle.iss_request.specs.declared.ids.NodeId.{NodeId}
use Rattle.iss_request.specs.declared.ids.Slot.{Slot}
use Rattle.iss_request.specs.declared.requests.Batch.{Batch}
use Rattle.iss_sb.specs.declared.effects.Input.{Input}
use Rattle.iss_sb.specs.declared.effects.Input.TheVariants.{Cast, Receive, Timeout}
use Rattle.iss_sb.specs.declared.effects.Params.{Params}
use Rattle.iss_sb.proofs.Cases.{by-both}
use Rattle.raft_wire.specs.declared.entries.Entry.{Entry}
use Rattle.iss_sb.specs.declared.content.Content.TheVariants.{Holds}
use Rattle.raft_wire.specs.declared.messages.Message.{Message}
use Rattle.raft_wire.specs.declared.messages.Message.TheVariants.{Append, Reply, AskVote, Vote}
use Rattle.sb_raft.specs.Rules.{Role, Follower, Candidate, Leader, State, Step, advanced, answer, append_behind, appended, appends, candidate, counted, grants, greatest, is_candidate, is_leader, last_timed_term, matched_at, may_cast, may_commit, may_merge, on_append, on_ask, on_cast, on_not_ok, on_ok, on_reply, on_timeout, on_vote, quiet, raised, risen, spread, stands_up, step, taken, won}
use Rattle.iss_base.specs.Quorum.{count_below}
use Rattle.sb_raft.specs.Logs.{entry, fits_behind, merged}
use Rattle.iss_base.specs.Lists.{set_at}

pub leader_is : (r : Role) → is_leader r ≡ true → r ≡ Leader
leader_is Follower h = absurd (false≢true h)
leader_is Candidate h = absurd (false≢true h)
leader_is Leader h = refl

pub candidate_is : (r : Role) → is_candidate r ≡ true → r ≡ Candidate
candidate_is Follower h = absurd (false≢true h)
candidate_is Leader h = absurd (false≢true h)
candidate_is Candidate h = refl

-- ---- What a quorum holds is committed

pub greatest-above : (test : ℕ → Bool) (low k : ℕ) → low ≤ greatest test low k
greatest-above test low zero = omega arith
greatest-above test low (suc k) = by-both (λ (z : ℕ). low ≤ z) (nat_lt low (suc k) && test (suc k)) (suc k) (greatest test low k)
    (λ h. let a = and_parts (nat_lt low (suc k)) (test (suc k)) h in let l = ltb-true low (suc k) a.0 in omega arith) (λ h. greatest-above test low k)

abbrev pub reach : Params → ℕ → State → ℕ
reach p me s = greatest (may_commit p me s) s.commit (length s.log)

abbrev pub with_reach : Params → ℕ → State → State
with_reach p me s = record s { commit = reach p me s }

same_commit : (s : State) (i : ℕ) → i ≡ s.commit → s ≡ record s { commit = i }
same_commit s i e = rw e refl

not-above : (a b : ℕ) → nat_lt a b ≡ false → a ≤ b → b ≡ a
not-above a b h l = grind (arith, h, l, lt-ltb a b)

pub advanced-state : (p : Params) (me : ℕ) (made : Step) → (advanced p me made).state ≡ with_reach p me made.state
advanced-state p me made =
    let i = reach p me made.state in
    by-both (λ (z : Step). z.state ≡ with_reach p me made.state) (nat_lt made.state.commit i) (risen p me (record made.state { commit = i }) made.sends) made
    (λ h. refl) (λ h. same_commit made.state i (not-above made.state.commit i h (greatest-above (may_commit p me made.state) made.state.commit (length made.state.log))))

-- ---- A higher term is taken over

abbrev pub up : State → ℕ → State
up s t = record s { term = t; vote = None; role = Follower }

pub data Raise (s u : State) : Type 0 where
  level : u ≡ s → Raise s u
  higher : (t : ℕ) → s.term < t → u ≡ up s t → Raise s u

pub raise : (s : State) (t : ℕ) → Raise s (raised s t)
raise s t = by-both (λ (z : State). Raise s z) (nat_lt s.term t) (up s t) s (λ h. higher t (ltb-true s.term t h) refl) (λ h. level refl)

-- ---- The rest

abbrev pub with_copy : State → ℕ → ℕ → List Entry → State
with_copy u prev c es = record u { role = Follower; log = merged u.log prev es; commit = max u.commit (min c (prev + length es)) }

abbrev pub with_match : State → ℕ → ℕ → State
with_match u j x = matched_at u j (max (u.matched j) x)

abbrev pub with_granted : State → ℕ → State
with_granted u j = record u { granted = set_at u.granted j true }

abbrev pub with_cast : State → Batch → State
with_cast u b = record u { log = u.log ++ entry u.term (Holds b) ∷ [] }

pub data Handled (p : Params) (me : ℕ) (u : State) (i : Input Message) (v : State) : Type 0 where
  none : v ≡ u → Handled p me u i v
  down : v ≡ record u { role = Follower } → Handled p me u i v
  copy : (j : NodeId) (prev pt c : ℕ) (es : List Entry) → i ≡ Receive j (Append u.term prev pt c es) → fits_behind u.log prev pt ≡ true → may_merge u prev es ≡ true → v ≡ with_copy u prev c es → Handled p me u i v
  reply : (j : NodeId) (x : ℕ) → i ≡ Receive j (Reply u.term true x) → u.role ≡ Leader → (j.0 ≡ me → ⊥) → x ≤ length u.log → v ≡ with_reach p me (with_match u j.0 x) → Handled p me u i v
  back : (j : NodeId) (x : ℕ) → i ≡ Receive j (Reply u.term false x) → u.role ≡ Leader → x ≡ u.next j.0 - 1 → 1 ≤ x → v ≡ record u { next = set_at u.next j.0 x } → Handled p me u i v
  grant : (j : NodeId) (last lt : ℕ) → i ≡ Receive j (AskVote u.term last lt) → grants u j.0 u.term last lt ≡ true → v ≡ record u { vote = Some j.0 } → Handled p me u i v
  voted : (j : NodeId) → i ≡ Receive j (Vote u.term true) → u.role ≡ Candidate → v ≡ with_granted u j.0 → Handled p me u i v
  win : (j : NodeId) → i ≡ Receive j (Vote u.term true) → u.role ≡ Candidate → p.setup.quorum ≤ count_below (set_at u.granted j.0 true) p.setup.n → v ≡ with_reach p me (won p (with_granted u j.0)) → Handled p me u i v
  casts : (s : Slot) (b : Batch) → i ≡ Cast s b → may_cast p u s.0 ≡ true → v ≡ with_reach p me (with_cast u b) → Handled p me u i v
  times : (i ≡ Timeout) × (u.term < last_timed_term) → is_leader u.role ≡ false → v ≡ candidate me u → Handled p me u i v
  alone : (i ≡ Timeout) × (u.term < last_timed_term) → is_leader u.role ≡ false → p.setup.quorum ≤ count_below (candidate me u).granted p.setup.n → v ≡ with_reach p me (won p (candidate me u)) → Handled p me u i v

module _ (p : Params) (me : ℕ) (u : State) where
  pub append_cases : (j : NodeId) (t prev pt c : ℕ) (es : List Entry) → Handled p me u (Receive j (Append t prev pt c es)) (on_append u j.0 t prev pt c es).state
  append_cases j t prev pt c es =
      let f = record u { role = Follower } in
      let i : Input Message = Receive j (Append t prev pt c es) in
      by-both (λ (z : Step). Handled p me u i z.state) (t == u.term) (taken f j.0 prev pt c es) (answer u j.0 (Reply u.term false prev))
      (λ h. by-both (λ (z : Step). Handled p me u i z.state) (fits_behind u.log prev pt) (if may_merge f prev es then answer (appended f prev c es) j.0 (Reply f.term true (prev + length es)) else quiet f) (answer f j.0 (Reply f.term false prev))
      (λ g. by-both (λ (z : Step). Handled p me u i z.state) (may_merge u prev es) (answer (appended f prev c es) j.0 (Reply f.term true (prev + length es))) (quiet f)
      (λ k. copy j prev pt c es (ap (λ (z : ℕ). Receive j (Append z prev pt c es)) (eqb-true t u.term h)) g k refl)
      (λ k. down refl))
      (λ g. down refl))
      (λ h. none refl)

  pub reply_cases : (j : NodeId) (t : ℕ) (ok : Bool) (x : ℕ) → Handled p me u (Receive j (Reply t ok x)) (on_reply p me u j.0 t ok x).state
  reply_cases j t ok x =
      by-both (λ (z : Step). Handled p me u (Receive j (Reply t ok x)) z.state) ((is_leader u.role && (t == u.term)) && not (j.0 == me)) (if ok then on_ok p me u j.0 x else on_not_ok u j.0 x) (quiet u)
      (λ h.
      let a = and_parts (is_leader u.role && (t == u.term)) (not (j.0 == me)) h in
      let b = and_parts (is_leader u.role) (t == u.term) a.0 in
      go ok (eqb-true t u.term b.1) (leader_is u.role b.0) (eqb-false j.0 me (not-true (j.0 == me) a.1)))
      (λ h. none refl)
    where
      go : (ok : Bool) → t ≡ u.term → u.role ≡ Leader → (j.0 ≡ me → ⊥) → Handled p me u (Receive j (Reply t ok x)) (if ok then on_ok p me u j.0 x else on_not_ok u j.0 x).state
      go true e r ne = by-both (λ (z : Step). Handled p me u (Receive j (Reply t true x)) z.state) (nat_le x (length u.log)) (advanced p me (quiet (with_match u j.0 x))) (quiet u)
          (λ h. reply j x (ap (λ (z : ℕ). Receive j (Reply z true x)) e) r ne (leb-true x (length u.log) h) (advanced-state p me (quiet (with_match u j.0 x))))
          (λ h. none refl)
      go false e r ne = by-both (λ (z : Step). Handled p me u (Receive j (Reply t false x)) z.state) ((x == u.next j.0 - 1) && nat_le 1 x) (answer (record u { next = set_at u.next j.0 x }) j.0 (append_behind u (x - 1))) (quiet u)
          (λ h. let a = and_parts (x == u.next j.0 - 1) (nat_le 1 x) h in back j x (ap (λ (z : ℕ). Receive j (Reply z false x)) e) r (eqb-true x (u.next j.0 - 1) a.0) (leb-true 1 x a.1) refl)
          (λ h. none refl)

  pub ask_cases : (j : NodeId) (t last lt : ℕ) → Handled p me u (Receive j (AskVote t last lt)) (on_ask u j.0 t last lt).state
  ask_cases j t last lt =
      by-both (λ (z : Step). Handled p me u (Receive j (AskVote t last lt)) z.state) (grants u j.0 t last lt) (answer (record u { vote = Some j.0 }) j.0 (Vote u.term true)) (answer u j.0 (Vote u.term false))
      (λ h.
      let a = and_parts (t == u.term) _ h in
      let e = eqb-true t u.term a.0 in
      grant j last lt (ap (λ (z : ℕ). Receive j (AskVote z last lt)) e) (subst (λ (z : ℕ). grants u j.0 z last lt ≡ true) e h) refl)
      (λ h. none refl)

  pub vote_cases : (j : NodeId) (t : ℕ) (g : Bool) → Handled p me u (Receive j (Vote t g)) (on_vote p me u j.0 t g).state
  vote_cases j t g =
      let s = with_granted u j.0 in
      by-both (λ (z : Step). Handled p me u (Receive j (Vote t g)) z.state) ((is_candidate u.role && g) && (t == u.term)) (counted p me s []) (quiet u)
      (λ h.
      let a = and_parts (is_candidate u.role && g) (t == u.term) h in
      let b = and_parts (is_candidate u.role) g a.0 in
      let et = eqb-true t u.term a.1 in
      let eg = b.1 in
      let e : Receive j (Vote t g) ≡ Receive j (Vote u.term true) = cc in
      by-both (λ (z : Step). Handled p me u (Receive j (Vote t g)) z.state) (nat_le p.setup.quorum (count_below s.granted p.setup.n)) (advanced p me (record { state = won p s; sends = [] ++ appends p me (won p s) })) (record { state = s; sends = [] })
      (λ k. win j e (candidate_is u.role b.0) (leb-true p.setup.quorum (count_below s.granted p.setup.n) k) (advanced-state p me (record { state = won p s; sends = [] ++ appends p me (won p s) })))
      (λ k. voted j e (candidate_is u.role b.0) refl))
      (λ h. none refl)

  pub time_cases : Handled p me u Timeout (on_timeout p me u).state
  time_cases =
      let s = candidate me u in
      by-both (λ (z : Step). Handled p me u Timeout z.state) (is_leader u.role) (record { state = u; sends = appends p me u }) (if nat_lt u.term last_timed_term then stands_up p me s else quiet u)
      (λ h. none refl)
      (λ h. by-both (λ (z : Step). Handled p me u Timeout z.state) (nat_lt u.term last_timed_term) (stands_up p me s) (quiet u)
      (λ k. stood (ltb-true u.term last_timed_term k) h)
      (λ k. none refl))
    where
      stood : u.term < last_timed_term → is_leader u.role ≡ false → Handled p me u Timeout (stands_up p me (candidate me u)).state
      stood low h = by-both (λ (z : Step). Handled p me u Timeout z.state) (nat_le p.setup.quorum (count_below (candidate me u).granted p.setup.n)) (advanced p me (record { state = won p (candidate me u); sends = _ ++ appends p me (won p (candidate me u)) })) (record { state = candidate me u; sends = _ })
          (λ k. alone (refl, low) h (leb-true p.setup.quorum (count_below (candidate me u).granted p.setup.n) k) (advanced-state p me (record { state = won p (candidate me u); sends = _ ++ appends p me (won p (candidate me u)) })))
          (λ k. times (refl, low) h refl)

  pub cast_cases : (s : Slot) (b : Batch) → Handled p me u (Cast s b) (on_cast p me u s.0 b).state
  cast_cases s b =
      by-both (λ (z : Step). Handled p me u (Cast s b) z.state) (may_cast p u s.0) (spread p me (with_cast u b)) (quiet u)
      (λ h. casts s b refl h (advanced-state p me (record { state = with_cast u b; sends = appends p me (with_cast u b) })))
      (λ h. none refl)

pub record Next (p : Params) (me : ℕ) (s : State) (i : Input Message) (v : State) : Type 0 where
  pub mid : State
  pub raise : Raise s mid
  pub handled : Handled p me mid i v

abbrev pub next : Params → ℕ → State → Input Message → State
next p me s i = (step p me s i).state

pub next_cases : (p : Params) (me : ℕ) (s : State) (i : Input Message) → Next p me s i (next p me s i)
next_cases p me s (Cast slot b) = record { mid = s; raise = level refl; handled = cast_cases p me s slot b }
next_cases p me s (Receive j (Append t prev pt c es)) = record { mid = raised s t; raise = raise s t; handled = append_cases p me (raised s t) j t prev pt c es }
next_cases p me s (Receive j (Reply t ok x)) = record { mid = raised s t; raise = raise s t; handled = reply_cases p me (raised s t) j t ok x }
next_cases p me s (Receive j (AskVote t last lt)) = record { mid = raised s t; raise = raise s t; handled = ask_cases p me (raised s t) j t last lt }
next_cases p me s (Receive j (Vote t g)) = record { mid = raised s t; raise = raise s t; handled = vote_cases p me (raised s t) j t g }
next_cases p me s Timeout = record { mid = s; raise = level refl; handled = time_cases p me s }
