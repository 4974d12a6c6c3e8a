-- The properties of good certificates and ViewChanges.
use Rattle.std.proofs.Common.{◌≡◌, ℕ, suc, ◌+◌, ◌*◌, ◌<◌, ◌≤◌, Bool, true, false, ◌&&◌, ◌||◌, not, List, [], ◌∷◌, length, arith, refl, inl, inr, sym, ◌∙◌, subst, ap}
use Rattle.std.specs.Prelude.{◌==◌, nat_lt, nat_le}
use Rattle.std.proofs.lemmas.Bool.{eqb-true, eq-eqb, leb-true, ltb-true, false≢true, true≢false}
use Rattle.iss_base.specs.Lists.{In}
use Rattle.iss_base.specs.Quorum.{distinct, mem}
use Rattle.iss_base.proofs.Lists.{and-true, not-true}
use Rattle.iss_request.specs.Formats.{is_batch}
use Rattle.iss_sb.specs.declared.effects.Params.{Params}
use Rattle.iss_sb.specs.Calls.{has_slot}
use Rattle.iss_sb.proofs.Slots.{has_slot-In}
use Rattle.pbft_wire.specs.declared.messages.Certificate.{Certificate}
use Rattle.pbft_wire.specs.declared.messages.Change.{Change}
use Rattle.iss_sb.specs.declared.signers.Signed.{Signed}
use Rattle.pbft_views.specs.Good.{all_good, are_changes, are_enough, are_voters, is_good, primary}
use Rattle.pbft_views.specs.Laws.{HasChanges, HasVotes, makers_of, nodes_of}
use Rattle.pbft_views.proofs.Numbers.{apart-cons, below-from, mem-cases}

-- ---- voters

pub nodes-length : (xs : List Signed) → length (nodes_of xs) ≡ length xs
nodes-length [] = refl
nodes-length (x ∷ xs) = ap suc (nodes-length xs)

pub record IsVoter (p : Params) (but from j : ℕ) : Type 0 where
  pub low : from ≤ j
  pub high : j < p.setup.n
  pub other : (j == but) ≡ false

record Voters (p : Params) (but from : ℕ) (x : Signed) (xs : List Signed) : Type 0 where
  pub first : IsVoter p but from x.by.0
  pub rest : are_voters p but (suc x.by.0) xs ≡ true

voters-parts : (p : Params) (but from : ℕ) (x : Signed) (xs : List Signed) → are_voters p but from (x ∷ xs) ≡ true →
    Voters p but from x xs
voters-parts p but from x xs h =
    let a = and-true (nat_le from x.by.0 && (nat_lt x.by.0 p.setup.n && not (x.by.0 == but))) (are_voters p but (suc x.by.0) xs) h in
    let b = and-true (nat_le from x.by.0) (nat_lt x.by.0 p.setup.n && not (x.by.0 == but)) a.0 in
    let c = and-true (nat_lt x.by.0 p.setup.n) (not (x.by.0 == but)) b.1 in
    record { first = record { low = leb-true from x.by.0 b.0; high = ltb-true x.by.0 p.setup.n c.0; other = not-true (x.by.0 == but) c.1 }; rest = a.1 }

pub voter-at : (p : Params) (but from : ℕ) (xs : List Signed) (j : ℕ) → are_voters p but from xs ≡ true →
    mem j (nodes_of xs) ≡ true → IsVoter p but from j
voter-at p but from [] j h m = absurd (false≢true m)
voter-at p but from (x ∷ xs) j h m =
    let v = voters-parts p but from x xs h in
    elim (mem-cases j x.by.0 (nodes_of xs) m) [
      | inl e ↦ subst (λ (z : ℕ). IsVoter p but from z) (sym e) v.first
      | inr k ↦
          let r = voter-at p but (suc x.by.0) xs j v.rest k in
          let l = v.first.low in
          let o = r.low in
          record { low = omega (arith, l, o); high = r.high; other = r.other }
    ]

voters-apart : (p : Params) (but from : ℕ) (xs : List Signed) → are_voters p but from xs ≡ true →
    distinct (nodes_of xs) ≡ true
voters-apart p but from [] h = refl
voters-apart p but from (x ∷ xs) h =
    let v = voters-parts p but from x xs h in
    apart-cons x.by.0 (nodes_of xs) (λ m. let r = voter-at p but (suc x.by.0) xs x.by.0 v.rest m in let l = r.low in absurd (omega (arith, l))) (voters-apart p but (suc x.by.0) xs v.rest)

-- ---- certificates

batch-below : (v : ℕ) (b : Bool) → (nat_lt 0 v || b) ≡ true → v ≡ 0 → b ≡ true
batch-below v b h e = subst (λ (z : ℕ). (nat_lt 0 z || b) ≡ true) e h

pub good-votes : (p : Params) (c : Certificate) → is_good p c ≡ true → HasVotes p c
good-votes p c h =
    let but = primary p c.view in
    let a = and-true (has_slot c.slot.0 p.slots) _ h in
    let b = and-true (length c.prepares == 2 * p.setup.f) _ a.1 in
    let d = and-true (are_voters p but 0 c.prepares) (nat_lt 0 c.view || is_batch c.value) b.1 in
    record {
      within = has_slot-In c.slot p.slots a.0;
      count = nodes-length c.prepares ∙ eqb-true (length c.prepares) (2 * p.setup.f) b.0;
      apart = apart-cons but (nodes_of c.prepares) (λ m. true≢false (sym (eq-eqb but but refl) ∙ (voter-at p but 0 c.prepares but d.0 m).other)) (voters-apart p but 0 c.prepares d.0);
      below = below-from p.setup.n (nodes_of c.prepares) (λ j m. (voter-at p but 0 c.prepares j d.0 m).high);
      batch = batch-below c.view (is_batch c.value) d.1;
    }

pub all_good-at : (p : Params) (v : ℕ) (cs : List Certificate) (c : Certificate) → all_good p v cs ≡ true → In c cs →
    (c.view < v) × (is_good p c ≡ true)
all_good-at p v [] c h i = absurd i
all_good-at p v (x ∷ xs) c h (inl e) =
    let b = and-true (is_good p x) (nat_lt x.view v) (and-true (is_good p x && nat_lt x.view v) (all_good p v xs) h).0 in
    subst (λ (z : Certificate). (z.view < v) × (is_good p z ≡ true)) (sym e) (ltb-true x.view v b.1, b.0)
all_good-at p v (x ∷ xs) c h (inr i) = all_good-at p v xs c (and-true (is_good p x && nat_lt x.view v) (all_good p v xs) h).1 i

-- ---- ViewChanges

pub makers-length : (xs : List Change) → length (makers_of xs) ≡ length xs
makers-length [] = refl
makers-length (x ∷ xs) = ap suc (makers-length xs)

pub record IsChange (p : Params) (v from : ℕ) (x : Change) : Type 0 where
  pub low : from ≤ x.node.0
  pub high : x.node.0 < p.setup.n
  pub view : x.view ≡ v
  pub good : all_good p v x.certificates ≡ true

pub record Changes (p : Params) (v from : ℕ) (x : Change) (xs : List Change) : Type 0 where
  pub first : IsChange p v from x
  pub rest : are_changes p v (suc x.node.0) xs ≡ true

pub changes-parts : (p : Params) (v from : ℕ) (x : Change) (xs : List Change) → are_changes p v from (x ∷ xs) ≡ true →
    Changes p v from x xs
changes-parts p v from x xs h =
    let a = and-true ((nat_le from x.node.0 && nat_lt x.node.0 p.setup.n) && ((x.view == v) && all_good p v x.certificates)) (are_changes p v (suc x.node.0) xs) h in
    let b = and-true (nat_le from x.node.0 && nat_lt x.node.0 p.setup.n) ((x.view == v) && all_good p v x.certificates) a.0 in
    let c = and-true (nat_le from x.node.0) (nat_lt x.node.0 p.setup.n) b.0 in
    let d = and-true (x.view == v) (all_good p v x.certificates) b.1 in
    record { first = record { low = leb-true from x.node.0 c.0; high = ltb-true x.node.0 p.setup.n c.1; view = eqb-true x.view v d.0; good = d.1 }; rest = a.1 }

pub change-at : (p : Params) (v from : ℕ) (xs : List Change) (x : Change) → are_changes p v from xs ≡ true → In x xs →
    IsChange p v from x
change-at p v from [] x h i = absurd i
change-at p v from (y ∷ ys) x h (inl e) = subst (λ (z : Change). IsChange p v from z) (sym e) (changes-parts p v from y ys h).first
change-at p v from (y ∷ ys) x h (inr i) =
    let q = changes-parts p v from y ys h in
    let r = change-at p v (suc y.node.0) ys x q.rest i in
    let l = q.first.low in
    let o = r.low in
    record { low = omega (arith, l, o); high = r.high; view = r.view; good = r.good }

-- each replica that is listed sent one of them
pub maker-at : (j : ℕ) (xs : List Change) → mem j (makers_of xs) ≡ true → (x : Change) × In x xs × (x.node.0 ≡ j)
maker-at j [] h = absurd (false≢true h)
maker-at j (x ∷ xs) h = elim (mem-cases j x.node.0 (makers_of xs) h) [
  | inl e ↦ (x, inl refl, sym e)
  | inr m ↦ let r = maker-at j xs m in (r.0, inr r.1, r.2)
]

changes-apart : (p : Params) (v from : ℕ) (xs : List Change) → are_changes p v from xs ≡ true →
    distinct (makers_of xs) ≡ true
changes-apart p v from [] h = refl
changes-apart p v from (x ∷ xs) h =
    let q = changes-parts p v from x xs h in
    apart-cons x.node.0 (makers_of xs) (λ m. let r = maker-at x.node.0 xs m in let l = (change-at p v (suc x.node.0) xs r.0 q.rest r.1).low in let e = r.2 in absurd (omega (arith, l, e))) (changes-apart p v (suc x.node.0) xs q.rest)

pub enough-changes : (p : Params) (v : ℕ) (xs : List Change) → are_enough p v xs ≡ true → HasChanges p v xs
enough-changes p v xs h =
    let a = and-true (length xs == 2 * p.setup.f + 1) (are_changes p v 0 xs) h in
    record {
      count = makers-length xs ∙ eqb-true (length xs) (2 * p.setup.f + 1) a.0;
      apart = changes-apart p v 0 xs a.1;
      below = below-from p.setup.n (makers_of xs) (λ j m. let r = maker-at j xs m in let u = (change-at p v 0 xs r.0 a.1 r.1).high in let e = r.2 in omega (arith, u, e));
      view = λ x i. (change-at p v 0 xs x a.1 i).view;
      good = λ x i c k. let g = all_good-at p v x.certificates c (change-at p v 0 xs x a.1 i).good k in (g.0, good-votes p c g.1);
    }
