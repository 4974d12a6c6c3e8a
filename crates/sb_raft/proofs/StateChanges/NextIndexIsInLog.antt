-- A leader's next indices are within its log.
use Rattle.std.proofs.Common.{◌≡◌, ℕ, ◌+◌, ◌-◌, ◌≤◌, ◌==◌, Bool, true, false, cond, List, [], ◌∷◌, ◌++◌, length, sym, subst, ap, ◌∙◌, arith}
use Rattle.std.specs.Prelude.{max}
use Rattle.std.proofs.lemmas.List.{length-append}
use Rattle.iss_sb.specs.declared.effects.Input.{Input}
use Rattle.iss_sb.specs.declared.effects.Params.{Params}
use Rattle.iss_sb.specs.Evidence.{Item}
use Rattle.raft_wire.specs.declared.entries.Entry.{Entry}
use Rattle.iss_sb.specs.declared.content.Content.TheVariants.{Holds}
use Rattle.raft_wire.specs.declared.messages.Message.{Message}
use Rattle.sb_raft.specs.Raft.{state}
use Rattle.sb_raft.specs.Rules.{Role, Follower, Candidate, Leader, State, candidate, filling, raised, won}
use Rattle.sb_raft.specs.Logs.{entry}
use Rattle.iss_base.specs.Lists.{set_at}
use Rattle.sb_raft.proofs.StateChanges.StepCases.{raise, Raise, level, higher, Handled, none, down, copy, reply, back, grant, voted, win, casts, times, alone, Next, next_cases, with_cast, with_granted, with_match, with_reach}
use Rattle.sb_raft.proofs.StateChanges.TermVoteRoleLog.{cast-parts}

pub record Bounds (s : State) : Type 0 where
  pub matched : (k : ℕ) → s.matched k ≤ length s.log
  pub next : (k : ℕ) → s.next k - 1 ≤ length s.log

abbrev pub Bound : State → Type 0
Bound s = s.role ≡ Leader → Bounds s

set-all : (P : ℕ → Type 0) (g : ℕ → ℕ) (j x : ℕ) → P x → ((k : ℕ) → P (g k)) → (k : ℕ) → P (set_at g j x k)
set-all P g j x h r k = go (k == j)
  where
    go : (b : Bool) → P (cond b x (g k))
    go true = h
    go false = r k

no-leader : (r : Role) (A : Type 0) → r ≡ Follower → r ≡ Leader → A
no-leader r A e h = absurd cc

no-candidate : (r : Role) (A : Type 0) → r ≡ Candidate → r ≡ Leader → A
no-candidate r A e h = absurd cc

pub won-bounds : (p : Params) (s : State) → Bounds (won p s)
won-bounds p s =
    let l = length-append s.log (filling p s) in
    record { matched = λ k. omega arith; next = λ k. omega (arith, l) }

pub match-bounds : (s : State) (j x : ℕ) → Bounds s → x ≤ length s.log → Bounds (with_match s j x)
match-bounds s j x b h =
    let m = b.matched j in
    record {
      matched = set-all (λ (z : ℕ). z ≤ length s.log) s.matched j (max (s.matched j) x) (omega (arith, m, h)) b.matched;
      next = set-all (λ (z : ℕ). z - 1 ≤ length s.log) s.next j (max (s.matched j) x + 1) (omega (arith, m, h)) b.next;
    }

pub cast-bounds : (s : State) (e : Entry) → Bounds s → Bounds (record s { log = s.log ++ e ∷ [] })
cast-bounds s e b =
    let l = length-append s.log (e ∷ []) in
    record { matched = λ k. let h = b.matched k in omega (arith, l, h); next = λ k. let h = b.next k in omega (arith, l, h) }

bounds_level : (p : Params) (me : ℕ) (s : State) (i : Input Message) (v : State) → Bound s → Handled p me s i v → Bound v
bounds_level p me s i v b (none e) = subst (λ (z : State). Bound z) (sym e) b
bounds_level p me s i v b (down e) = no-leader v.role (Bounds v) (ap (λ (z : State). z.role) e)
bounds_level p me s i v b (copy j prev pt c es ei f fm e) = no-leader v.role (Bounds v) (ap (λ (z : State). z.role) e)
bounds_level p me s i v b (reply j x ei r ne lx e) =
    let m = match-bounds s j.0 x (b r) lx in
    let all : Bounds (with_reach p me (with_match s j.0 x)) = record { matched = m.matched; next = m.next } in
    λ h. subst (λ (z : State). Bounds z) (sym e) all
bounds_level p me s i v b (back j x ei r nx lx e) =
    let o = b r in
    let n = o.next j.0 in
    let all : Bounds (record s { next = set_at s.next j.0 x }) = record { matched = o.matched; next = set-all (λ (z : ℕ). z - 1 ≤ length s.log) s.next j.0 x (omega (arith, n, nx)) o.next } in
    λ h. subst (λ (z : State). Bounds z) (sym e) all
bounds_level p me s i v b (grant j last lt ei g e) = λ h.
    let o = b (sym (ap (λ (z : State). z.role) e) ∙ h) in
    subst (λ (z : State). Bounds z) (sym e) (record { matched = o.matched; next = o.next })
bounds_level p me s i v b (voted j ei r e) = no-candidate v.role (Bounds v) (ap (λ (z : State). z.role) e ∙ r)
bounds_level p me s i v b (win j ei r n e) =
    let m = won-bounds p (with_granted s j.0) in
    let all : Bounds (with_reach p me (won p (with_granted s j.0))) = record { matched = m.matched; next = m.next } in
    λ h. subst (λ (z : State). Bounds z) (sym e) all
bounds_level p me s i v b (casts n x ei r e) =
    let m = cast-bounds s (entry s.term (Holds x)) (b (cast-parts p s n.0 r).leads) in
    let all : Bounds (with_reach p me (with_cast s x)) = record { matched = m.matched; next = m.next } in
    λ h. subst (λ (z : State). Bounds z) (sym e) all
bounds_level p me s i v b (times ei r e) = no-candidate v.role (Bounds v) (ap (λ (z : State). z.role) e)
bounds_level p me s i v b (alone ei r n e) =
    let m = won-bounds p (candidate me s) in
    let all : Bounds (with_reach p me (won p (candidate me s))) = record { matched = m.matched; next = m.next } in
    λ h. subst (λ (z : State). Bounds z) (sym e) all

raise-bound : (s u : State) → Bound s → Raise s u → Bound u
raise-bound s u b (level e) = subst (λ (z : State). Bound z) (sym e) b
raise-bound s u b (higher t l e) = no-leader u.role (Bounds u) (ap (λ (z : State). z.role) e)

pub raised-bound : (s : State) (t : ℕ) → Bound s → Bound (raised s t)
raised-bound s t b = raise-bound s (raised s t) b (raise s t)

pub bounded : (p : Params) (me : ℕ) (xs : List (Item Message)) → Bound (state p me xs)
bounded p me [] = λ r. record { matched = λ k. omega arith; next = λ k. omega arith }
bounded p me (x ∷ xs) = go (next_cases p me (state p me xs) x.input) (bounded p me xs)
  where
    go : Next p me (state p me xs) x.input (state p me (x ∷ xs)) → Bound (state p me xs) → Bound (state p me (x ∷ xs))
    go n b = bounds_level p me n.mid x.input (state p me (x ∷ xs)) (raise-bound (state p me xs) n.mid b n.raise) n.handled
