-- A bound on the length of a log, whatever was received: its marks are counted.
use Rattle.std.proofs.Common.{◌≡◌, ℕ, zero, suc, ◌+◌, ◌-◌, ◌≤◌, ◌==◌, Bool, true, false, cond, List, [], ◌∷◌, ◌++◌, length, refl, sym, subst, ap, ◌∙◌, arith}
use Rattle.std.proofs.lemmas.List.{length-append}
use Rattle.iss_request.specs.declared.requests.Value.{Value}
use Rattle.iss_sb.specs.declared.effects.Input.{Input}
use Rattle.iss_sb.specs.declared.effects.Params.{Params}
use Rattle.iss_sb.specs.Calls.{IsGoodParams}
use Rattle.iss_sb.specs.Evidence.{Item}
use Rattle.iss_sb.proofs.Slots.{place-below}
use Rattle.raft_wire.specs.declared.entries.Entry.{Entry}
use Rattle.iss_sb.specs.declared.content.Content.{Content}
use Rattle.iss_sb.specs.declared.content.Content.TheVariants.{Nil, Holds, Mark}
use Rattle.raft_wire.specs.declared.messages.Message.{Message}
use Rattle.sb_raft.specs.Logs.{contents, content, entry, filled, nils}
use Rattle.sb_raft.specs.Raft.{raft, state}
use Rattle.sb_raft.specs.Rules.{Role, Follower, Leader, State, candidate, filling, is_candidate}
use Rattle.sb_raft.proofs.StateChanges.CommittedEntriesStay.{contents-both}
use Rattle.sb_raft.proofs.StateChanges.TermVoteRoleLog.{cast-parts, fits_parts}
use Rattle.sb_raft.proofs.StateChanges.StepCases.{Raise, level, higher, Handled, none, down, copy, reply, back, grant, voted, win, casts, times, alone, Next, next_cases, with_granted}

pub filled-both : (a b : List Entry) → filled (a ++ b) ≡ filled a + filled b
filled-both a b = ap (λ (vs : List Value). length vs) (contents-both a b) ∙ length-append (contents a) (contents b)

pub content-low : (e : Entry) → length (content e.what) ≤ 1
content-low e = go e.what
  where
    go : (w : Content) → length (content w) ≤ 1
    go Nil = omega arith
    go (Holds b) = omega arith
    go Mark = omega arith

-- a log fills at most as many slots as it has entries
pub filled-low : (log : List Entry) → filled log ≤ length log
filled-low [] = omega arith
filled-low (e ∷ log) =
    let r = filled-low log in
    let c = content-low e in
    let l = length-append (content e.what) (contents log) in
    omega (arith, r, c, l)

nils-long : (t k : ℕ) → length (nils t k) ≡ k
nils-long t zero = refl
nils-long t (suc k) = ap suc (nils-long t k)

nils-fill : (t k : ℕ) → filled (nils t k) ≡ k
nils-fill t zero = refl
nils-fill t (suc k) = ap suc (nils-fill t k)

pub filling-long : (p : Params) (s : State) → length (filling p s) ≡ suc (length p.slots - filled s.log)
filling-long p s = ap suc (nils-long s.term (length p.slots - filled s.log))

pub no-more : (c : Bool) (a x : ℕ) → a + cond c 1 0 ≤ x → a ≤ x
no-more true a x h = omega (arith, h)
no-more false a x h = omega (arith, h)

one-more : (c : Bool) (a b t f g : ℕ) → a + cond c 1 0 ≤ 65600 + t + f → b ≡ suc a → g ≡ suc f → b + cond c 1 0 ≤ 65600 + t + g
one-more true a b t f g h e d = omega (arith, h, e, d)
one-more false a b t f g h e d = omega (arith, h, e, d)

-- The marks of a log are bounded by those of one Append, plus one for each term since. A candidate has none of its
-- term.
pub record Few (s : State) : Type 0 where
  pub marks : length s.log + cond (is_candidate s.role) 1 0 ≤ 65600 + s.term + filled s.log
  pub full : filled s.log ≤ 65600

few-start : (p : Params) (me : ℕ) → Few (state p me [])
few-start p me = record { marks = go (me == p.leader.0); full = omega arith }
  where
    go : (b : Bool) → 0 + cond (is_candidate (cond b Leader Follower)) 1 0 ≤ 65600 + 1 + 0
    go true = omega arith
    go false = omega arith

-- a follower with the same log, in no lower term
follows : (s v : State) → Few s → s.term ≤ v.term → v.role ≡ Follower → v.log ≡ s.log → Few v
follows s v r up role log =
    let m = no-more (is_candidate s.role) (length s.log) (65600 + s.term + filled s.log) r.marks in
    let none : ◌≡◌ {A = ℕ} (cond (is_candidate v.role) 1 0) 0 = ap (λ (x : Role). cond (is_candidate x) 1 0) role in
    let l = ap (λ (x : List Entry). length x) log in
    let f = ap filled log in
    record { marks = omega (arith, m, none, l, f, up); full = let g = r.full in omega (arith, f, g) }

-- the same log, term and role
same-few : (s v : State) → Few s → v.term ≡ s.term → v.role ≡ s.role → v.log ≡ s.log → Few v
same-few s v r term role log =
    let m : length v.log + cond (is_candidate v.role) 1 0 ≤ 65600 + s.term + filled v.log = subst (λ (z : List Entry). length z + cond (is_candidate v.role) 1 0 ≤ 65600 + s.term + filled z) (sym log) (subst (λ (z : Role). length s.log + cond (is_candidate z) 1 0 ≤ 65600 + s.term + filled s.log) (sym role) r.marks) in
    record {
      marks = subst (λ (z : ℕ). length v.log + cond (is_candidate v.role) 1 0 ≤ 65600 + z + filled v.log) (sym term) m;
      full = subst (λ (z : List Entry). filled z ≤ 65600) (sym log) r.full;
    }

module _ (p : Params) (good : IsGoodParams raft p) (me : ℕ) where
  -- the log with a mark and the missing nils
  fills : (s v : State) → length s.log + 1 ≤ 65600 + v.term + filled s.log → filled s.log ≤ 65600 → v.role ≡ Leader → v.log ≡ s.log ++ filling p s → Few v
  fills s v marks full role log =
      let k = length p.slots - filled s.log in
      let none : ◌≡◌ {A = ℕ} (cond (is_candidate v.role) 1 0) 0 = ap (λ (x : Role). cond (is_candidate x) 1 0) role in
      let n = nils-long s.term k in
      let l : length v.log ≡ length s.log + suc (length (nils s.term k)) = ap (λ (x : List Entry). length x) log ∙ length-append s.log (filling p s) in
      let g = nils-fill s.term k in
      let f : filled v.log ≡ filled s.log + filled (nils s.term k) = ap filled log ∙ filled-both s.log (filling p s) in
      let few = good.few in
      record { marks = omega (arith, none, n, l, g, f, marks); full = omega (arith, g, f, few, full) }

  few-level : (u : State) (i : Input Message) (v : State) → Few u → Handled p me u i v → Few v
  few-level u i v r (none e) = subst (λ (z : State). Few z) (sym e) r
  few-level u i v r (down e) = follows u v r (let t = ap (λ (z : State). z.term) e in omega (arith, t)) (ap (λ (z : State). z.role) e) (ap (λ (z : State). z.log) e)
  few-level u i v r (copy j prev pt c es ei f fm e) =
      let a = fits_parts u prev pt es f fm in
      let none : ◌≡◌ {A = ℕ} (cond (is_candidate v.role) 1 0) 0 = ap (λ (z : State). cond (is_candidate z.role) 1 0) e in
      let l = ap (λ (z : State). length z.log) e in
      let f = filled-low v.log in
      let s = a.short in
      record { marks = omega (arith, none, l, s); full = omega (arith, l, s, f) }
  few-level u i v r (reply j x ei ru ne lx e) = same-few u v r (ap (λ (z : State). z.term) e) (ap (λ (z : State). z.role) e) (ap (λ (z : State). z.log) e)
  few-level u i v r (back j x ei ru nx lx e) = same-few u v r (ap (λ (z : State). z.term) e) (ap (λ (z : State). z.role) e) (ap (λ (z : State). z.log) e)
  few-level u i v r (grant j last lt ei g e) = same-few u v r (ap (λ (z : State). z.term) e) (ap (λ (z : State). z.role) e) (ap (λ (z : State). z.log) e)
  few-level u i v r (voted j ei ru e) = same-few u v r (ap (λ (z : State). z.term) e) (ap (λ (z : State). z.role) e) (ap (λ (z : State). z.log) e)
  few-level u i v r (win j ei ru n e) =
      let t : v.term ≡ u.term = ap (λ (z : State). z.term) e in
      let c : ◌≡◌ {A = ℕ} (cond (is_candidate u.role) 1 0) 1 = ap (λ (x : Role). cond (is_candidate x) 1 0) ru in
      let m = r.marks in
      fills (with_granted u j.0) v (omega (arith, c, m, t)) r.full (ap (λ (z : State). z.role) e) (ap (λ (z : State). z.log) e)
  few-level u i v r (casts s b ei mc e) =
      let one = entry u.term (Holds b) in
      let log : v.log ≡ u.log ++ one ∷ [] = ap (λ (z : State). z.log) e in
      let t : v.term ≡ u.term = ap (λ (z : State). z.term) e in
      let role : v.role ≡ u.role = ap (λ (z : State). z.role) e in
      let l : length v.log ≡ suc (length u.log) = ap (λ (x : List Entry). length x) log ∙ (let k = length-append u.log (one ∷ []) in omega (arith, k)) in
      let f : filled v.log ≡ suc (filled u.log) = ap filled log ∙ (let k = filled-both u.log (one ∷ []) in omega (arith, k)) in
      let room = place-below s.0 p.slots (filled u.log) (cast-parts p u s.0 mc).next in
      let few = good.few in
      let m : length v.log + cond (is_candidate v.role) 1 0 ≤ 65600 + u.term + filled v.log = subst (λ (x : Role). length v.log + cond (is_candidate x) 1 0 ≤ 65600 + u.term + filled v.log) (sym role) (one-more (is_candidate u.role) (length u.log) (length v.log) u.term (filled u.log) (filled v.log) r.marks l f) in
      record {
        marks = subst (λ (z : ℕ). length v.log + cond (is_candidate v.role) 1 0 ≤ 65600 + z + filled v.log) (sym t) m;
        full = omega (arith, f, room, few);
      }
  few-level u i v r (times ei ru e) =
      let t : v.term ≡ u.term + 1 = ap (λ (z : State). z.term) e in
      let one : ◌≡◌ {A = ℕ} (cond (is_candidate v.role) 1 0) 1 = ap (λ (z : State). cond (is_candidate z.role) 1 0) e in
      let m = no-more (is_candidate u.role) (length u.log) (65600 + u.term + filled u.log) r.marks in
      let l = ap (λ (z : State). length z.log) e in
      let f = ap (λ (z : State). filled z.log) e in
      let g = r.full in
      record { marks = omega (arith, one, m, l, f, t); full = omega (arith, f, g) }
  few-level u i v r (alone ei ru n e) =
      let t : v.term ≡ u.term + 1 = ap (λ (z : State). z.term) e in
      let m = no-more (is_candidate u.role) (length u.log) (65600 + u.term + filled u.log) r.marks in
      fills (candidate me u) v (omega (arith, m, t)) r.full (ap (λ (z : State). z.role) e) (ap (λ (z : State). z.log) e)

  raise-few : (s u : State) → Few s → Raise s u → Few u
  raise-few s u r (level e) = subst (λ (z : State). Few z) (sym e) r
  raise-few s u r (higher t l e) =
      let et : u.term ≡ t = ap (λ (z : State). z.term) e in
      follows s u r (omega (arith, et, l)) (ap (λ (z : State). z.role) e) (ap (λ (z : State). z.log) e)

  pub few : (xs : List (Item Message)) → Few (state p me xs)
  few [] = few-start p me
  few (x ∷ xs) = go (next_cases p me (state p me xs) x.input) (few xs)
    where
      go : Next p me (state p me xs) x.input (state p me (x ∷ xs)) → Few (state p me xs) → Few (state p me (x ∷ xs))
      go n r = few-level n.mid x.input (state p me (x ∷ xs)) (raise-few (state p me xs) n.mid r n.raise) n.handled
