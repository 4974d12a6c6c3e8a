-- The choice is the value of the certificate of the highest view, of the lowest replica in a tie.
use Rattle.std.proofs.Common.{◌≡◌, ℕ, suc, ◌<◌, ◌≤◌, Bool, true, false, cond, List, [], ◌∷◌, ◌++◌, arith, refl, inl, inr, sym, ◌∙◌, subst, ap, Option, Some, None}
use Rattle.std.specs.Prelude.{◌==◌, nat_lt}
use Rattle.std.proofs.lemmas.Bool.{cases_Bool, eqb-true, eqb-false, eq-eqb, ltb-true, ltb-false}
use Rattle.iss_base.specs.Lists.{In}
use Rattle.iss_base.proofs.Lists.{in_append, in_left, in_right}
use Rattle.iss_sb.specs.declared.effects.Params.{Params}
use Rattle.pbft_wire.specs.declared.messages.Certificate.{Certificate}
use Rattle.pbft_wire.specs.declared.messages.Change.{Change}
use Rattle.pbft_views.specs.Choice.{best, certificates_of, choice, higher, value_or_nil}
use Rattle.pbft_views.specs.Good.{are_changes}
use Rattle.pbft_views.specs.Laws.{IsChoice, IsHighest, nothing, highest}
use Rattle.pbft_views.proofs.Good.{change-at, changes-parts}

abbrev pub Is : Option Certificate → Certificate → Type 0
Is o e = o ≡ Some e

-- ---- certificates of ViewChanges

pub in-certificates : (c : Certificate) (x : Change) (xs : List Change) → In x xs → In c x.certificates →
    In c (certificates_of xs)
in-certificates c x [] i h = absurd i
in-certificates c x (y ∷ ys) (inl e) h = in_left c y.certificates (certificates_of ys) (subst (λ (z : Change). In c z.certificates) e h)
in-certificates c x (y ∷ ys) (inr i) h = in_right c y.certificates (certificates_of ys) (in-certificates c x ys i h)

pub certificate-from : (c : Certificate) (xs : List Change) → In c (certificates_of xs) →
    (x : Change) × In x xs × In c x.certificates
certificate-from c [] h = absurd h
certificate-from c (x ∷ xs) h = elim (in_append c x.certificates (certificates_of xs) h) [
  | inl a ↦ (x, inl refl, a)
  | inr a ↦ let r = certificate-from c xs a in (r.0, inr r.1, r.2)
]

-- ---- the best of a list

-- c compared with the best of the rest
pub data Against (c : Certificate) (o : Option Certificate) : Type 0 where
  alone : o ≡ None → Is (higher c o) c → Against c o
  wins : (e : Certificate) → Is o e → e.view ≤ c.view → Is (higher c o) c → Against c o
  loses : (e : Certificate) → Is o e → c.view < e.view → Is (higher c o) e → Against c o

against : (c : Certificate) (o : Option Certificate) → Against c o
against c None = alone refl refl
against c (Some e) = elim (cases_Bool (nat_lt c.view e.view)) [
  | inl t ↦ loses e refl (ltb-true c.view e.view t) (ap (λ (b : Bool). cond b (Some e) (Some c)) t)
  | inr t ↦ wins e refl (let l = ltb-false c.view e.view t in omega (arith, l)) (ap (λ (b : Bool). cond b (Some e) (Some c)) t)
]

best-here : (s : ℕ) (c : Certificate) (cs : List Certificate) → c.slot.0 ≡ s → best s (c ∷ cs) ≡ higher c (best s cs)
best-here s c cs h = ap (λ (b : Bool). cond b (higher c (best s cs)) (best s cs)) (eq-eqb c.slot.0 s h)

best-other : (s : ℕ) (c : Certificate) (cs : List Certificate) → (c.slot.0 == s) ≡ false → best s (c ∷ cs) ≡ best s cs
best-other s c cs h = ap (λ (b : Bool). cond b (higher c (best s cs)) (best s cs)) h

same-one : (o : Option Certificate) (c e : Certificate) → Is o c → Is o e → c ≡ e
same-one o c e h g = cc

no-one : (o : Option Certificate) (c : Certificate) → Is o c → o ≡ None → ⊥
no-one o c h g = cc

pub best-in : (s : ℕ) (cs : List Certificate) (e : Certificate) → Is (best s cs) e → In e cs × (e.slot.0 ≡ s)
best-in s [] e h = absurd (cc)
best-in s (c ∷ cs) e h = elim (cases_Bool (c.slot.0 == s)) [
  | inl t ↦ here (eqb-true c.slot.0 s t) (best-in s cs e) (against c (best s cs))
  | inr t ↦ let r = best-in s cs e (sym (best-other s c cs t) ∙ h) in (inr r.0, r.1)
]
  where
    here : c.slot.0 ≡ s → (Is (best s cs) e → In e cs × (e.slot.0 ≡ s)) → Against c (best s cs) →
        In e (c ∷ cs) × (e.slot.0 ≡ s)
    here at r (alone q i) = let k = same-one (best s (c ∷ cs)) e c h (best-here s c cs at ∙ i) in (inl k, ap (λ (z : Certificate). z.slot.0) k ∙ at)
    here at r (wins d q l i) = let k = same-one (best s (c ∷ cs)) e c h (best-here s c cs at ∙ i) in (inl k, ap (λ (z : Certificate). z.slot.0) k ∙ at)
    here at r (loses d q l i) = let k = same-one (best s (c ∷ cs)) e d h (best-here s c cs at ∙ i) in let g = r (q ∙ ap (λ (z : Certificate). Some z) (sym k)) in (inr g.0, g.1)

pub best-max : (s : ℕ) (cs : List Certificate) (c : Certificate) → In c cs → c.slot.0 ≡ s →
    (e : Certificate) × Is (best s cs) e × (c.view ≤ e.view)
best-max s [] c i h = absurd i
best-max s (d ∷ ds) c (inl i) h = here (ap (λ (z : Certificate). z.slot.0) (sym i) ∙ h) (against d (best s ds))
  where
    here : d.slot.0 ≡ s → Against d (best s ds) → (e : Certificate) × Is (best s (d ∷ ds)) e × (c.view ≤ e.view)
    here at (alone q r) = let v = ap (λ (z : Certificate). z.view) i in (d, best-here s d ds at ∙ r, omega (arith, v))
    here at (wins e q l r) = let v = ap (λ (z : Certificate). z.view) i in (d, best-here s d ds at ∙ r, omega (arith, v))
    here at (loses e q l r) = let v = ap (λ (z : Certificate). z.view) i in (e, best-here s d ds at ∙ r, omega (arith, v, l))
best-max s (d ∷ ds) c (inr i) h = elim (cases_Bool (d.slot.0 == s)) [
  | inl t ↦ here (eqb-true d.slot.0 s t) (best-max s ds c i h) (against d (best s ds))
  | inr t ↦ let r = best-max s ds c i h in (r.0, best-other s d ds t ∙ r.1, r.2)
]
  where
    here : d.slot.0 ≡ s → (e : Certificate) × Is (best s ds) e × (c.view ≤ e.view) → Against d (best s ds) →
        (e : Certificate) × Is (best s (d ∷ ds)) e × (c.view ≤ e.view)
    here at r (alone q k) = absurd (no-one (best s ds) r.0 r.1 q)
    here at r (wins e q l k) = let v = ap (λ (z : Certificate). z.view) (same-one (best s ds) r.0 e r.1 q) in let m = r.2 in (d, best-here s d ds at ∙ k, omega (arith, v, l, m))
    here at r (loses e q l k) = let v = ap (λ (z : Certificate). z.view) (same-one (best s ds) r.0 e r.1 q) in let m = r.2 in (e, best-here s d ds at ∙ k, omega (arith, v, m))

-- ---- the best of two concatenated lists

-- no certificate of the slot in the list is of a higher view
abbrev NoHigher : ℕ → List Certificate → ℕ → Type 0
NoHigher s cs v = (d : Certificate) → In d cs → d.slot.0 ≡ s → d.view ≤ v

abbrev AllLower : ℕ → List Certificate → Option Certificate → Type 0
AllLower s cs o = (d : Certificate) → In d cs → d.slot.0 ≡ s → (e : Certificate) × Is o e × (d.view < e.view)

data Split (s : ℕ) (cs ds : List Certificate) : Type 0 where
  front : (e : Certificate) → Is (best s (cs ++ ds)) e → In e cs → NoHigher s cs e.view → NoHigher s ds e.view →
      Split s cs ds
  behind : best s (cs ++ ds) ≡ best s ds → AllLower s cs (best s ds) → Split s cs ds

none-there : (s : ℕ) (ds : List Certificate) (v : ℕ) → best s ds ≡ None → NoHigher s ds v
none-there s ds v q d i h = let r = best-max s ds d i h in absurd (no-one (best s ds) r.0 r.1 q)

up-to : (s : ℕ) (ds : List Certificate) (e : Certificate) (v : ℕ) → Is (best s ds) e → e.view ≤ v → NoHigher s ds v
up-to s ds e v q l d i h = let r = best-max s ds d i h in let k = ap (λ (z : Certificate). z.view) (same-one (best s ds) r.0 e r.1 q) in let m = r.2 in omega (arith, k, m, l)

with-first : (s : ℕ) (c : Certificate) (cs : List Certificate) (v : ℕ) → (c.slot.0 ≡ s → c.view ≤ v) → NoHigher s cs v →
    NoHigher s (c ∷ cs) v
with-first s c cs v h g d (inl e) at = let k = ap (λ (z : Certificate). z.view) e in let l = h (ap (λ (z : Certificate). z.slot.0) (sym e) ∙ at) in omega (arith, k, l)
with-first s c cs v h g d (inr i) at = g d i at

lower-first : (s : ℕ) (c : Certificate) (cs : List Certificate) (o : Option Certificate) →
    (c.slot.0 ≡ s → (e : Certificate) × Is o e × (c.view < e.view)) → AllLower s cs o → AllLower s (c ∷ cs) o
lower-first s c cs o h g d (inl e) at =
    let r = h (ap (λ (z : Certificate). z.slot.0) (sym e) ∙ at) in
    let k = ap (λ (z : Certificate). z.view) e in
    let l = r.2 in
    (r.0, r.1, omega (arith, k, l))
lower-first s c cs o h g d (inr i) at = g d i at

split : (s : ℕ) (cs ds : List Certificate) → Split s cs ds
split s [] ds = behind refl (λ d i h. absurd i)
split s (c ∷ cs) ds = elim (cases_Bool (c.slot.0 == s)) [
  | inl t ↦ here (eqb-true c.slot.0 s t) (split s cs ds) (against c (best s (cs ++ ds)))
  | inr t ↦ other t (split s cs ds)
]
  where
    other : (c.slot.0 == s) ≡ false → Split s cs ds → Split s (c ∷ cs) ds
    other t (front e q i h g) = front e (best-other s c (cs ++ ds) t ∙ q) (inr i) (with-first s c cs e.view (λ at. absurd (eqb-false c.slot.0 s t at)) h) g
    other t (behind q h) = behind (best-other s c (cs ++ ds) t ∙ q) (lower-first s c cs (best s ds) (λ at. absurd (eqb-false c.slot.0 s t at)) h)

    -- c is not below the best of the rest
    first : Is (best s (c ∷ (cs ++ ds))) c → NoHigher s cs c.view → NoHigher s ds c.view → Split s (c ∷ cs) ds
    first q h g = front c q (inl refl) (with-first s c cs c.view (λ at. omega arith) h) g

    rest-up : (e : Certificate) → Is (best s (cs ++ ds)) e → e.view ≤ c.view → NoHigher s (cs ++ ds) c.view
    rest-up e q l = up-to s (cs ++ ds) e c.view q l

    here : c.slot.0 ≡ s → Split s cs ds → Against c (best s (cs ++ ds)) → Split s (c ∷ cs) ds
    here at r (alone q i) =
        first (best-here s c (cs ++ ds) at ∙ i) (λ d k. none-there s (cs ++ ds) c.view q d (in_left d cs ds k)) (λ d k. none-there s (cs ++ ds) c.view q d (in_right d cs ds k))
    here at r (wins e q l i) =
        first (best-here s c (cs ++ ds) at ∙ i) (λ d k. rest-up e q l d (in_left d cs ds k)) (λ d k. rest-up e q l d (in_right d cs ds k))
    here at (front f u k h g) (loses e q l i) =
        let same = ap (λ (z : Certificate). z.view) (same-one (best s (cs ++ ds)) f e u q) in
        front f (best-here s c (cs ++ ds) at ∙ i ∙ sym q ∙ u) (inr k) (with-first s c cs f.view (λ z. omega (arith, same, l)) h) g
    here at (behind u h) (loses e q l i) =
        behind (best-here s c (cs ++ ds) at ∙ i ∙ sym q ∙ u) (lower-first s c cs (best s ds) (λ z. (e, sym u ∙ q, l)) h)

-- ---- the choice

-- the best certificate of ViewChanges
data Chosen (xs : List Change) (s : ℕ) : Type 0 where
  none : best s (certificates_of xs) ≡ None →
      ((y : Change) (d : Certificate) → In y xs → In d y.certificates → d.slot.0 ≡ s → ⊥) → Chosen xs s
  some : (e : Certificate) → Is (best s (certificates_of xs)) e → IsHighest xs s e → Chosen xs s

module _ (p : Params) (v s : ℕ) where
  chosen : (from : ℕ) (xs : List Change) → are_changes p v from xs ≡ true → Chosen xs s
  chosen from [] h = none refl (λ y d i k e. absurd i)
  chosen from (x ∷ xs) h = go (split s x.certificates (certificates_of xs)) (chosen (suc x.node.0) xs (changes-parts p v from x xs h).rest)
    where
      go : Split s x.certificates (certificates_of xs) → Chosen xs s → Chosen (x ∷ xs) s
      go (front e q i up over) r = some e q (record {
        change = x;
        stands = inl refl;
        holds = i;
        slot = (best-in s (x.certificates ++ certificates_of xs) e q).1;
        high = high;
        least = least;
      })
        where
          high : (y : Change) (d : Certificate) → In y (x ∷ xs) → In d y.certificates → d.slot.0 ≡ s → d.view ≤ e.view
          high y d (inl k) t at = up d (subst (λ (z : Change). In d z.certificates) k t) at
          high y d (inr k) t at = over d (in-certificates d y xs k t) at

          least : (y : Change) (d : Certificate) → In y (x ∷ xs) → In d y.certificates → d.slot.0 ≡ s →
              d.view ≡ e.view → x.node.0 ≤ y.node.0
          least y d (inl k) t at w = let n = ap (λ (z : Change). z.node.0) k in omega (arith, n)
          least y d (inr k) t at w = let l = (change-at p v (suc x.node.0) xs y (changes-parts p v from x xs h).rest k).low in omega (arith, l)
      go (behind q lower) (none b lacks) = none (q ∙ b) (λ y d i k at. elim i [
        | inl e ↦ let r = lower d (subst (λ (z : Change). In d z.certificates) e k) at in absurd (no-one (best s (certificates_of xs)) r.0 r.1 b)
        | inr j ↦ lacks y d j k at
      ])
      go (behind q lower) (some e b is) = some e (q ∙ b) (record {
        change = is.change;
        stands = inr is.stands;
        holds = is.holds;
        slot = is.slot;
        high = high;
        least = least;
      })
        where
          below : (d : Certificate) → In d x.certificates → d.slot.0 ≡ s → d.view < e.view
          below d k at = let r = lower d k at in let same = ap (λ (z : Certificate). z.view) (same-one (best s (certificates_of xs)) r.0 e r.1 b) in let l = r.2 in omega (arith, same, l)

          high : (y : Change) (d : Certificate) → In y (x ∷ xs) → In d y.certificates → d.slot.0 ≡ s → d.view ≤ e.view
          high y d (inl k) t at = let l = below d (subst (λ (z : Change). In d z.certificates) k t) at in omega (arith, l)
          high y d (inr k) t at = is.high y d k t at

          least : (y : Change) (d : Certificate) → In y (x ∷ xs) → In d y.certificates → d.slot.0 ≡ s →
              d.view ≡ e.view → is.change.node.0 ≤ y.node.0
          least y d (inl k) t at w = let l = below d (subst (λ (z : Change). In d z.certificates) k t) at in absurd (omega (arith, l, w))
          least y d (inr k) t at w = is.least y d k t at w

  pub choice-is : (from : ℕ) (xs : List Change) → are_changes p v from xs ≡ true → IsChoice xs s (choice xs s)
  choice-is from xs h = go (chosen from xs h)
    where
      go : Chosen xs s → IsChoice xs s (choice xs s)
      go (none b lacks) = subst (λ (z : Option Certificate). IsChoice xs s (value_or_nil z)) (sym b) (nothing lacks)
      go (some e b is) = subst (λ (z : Option Certificate). IsChoice xs s (value_or_nil z)) (sym b) (highest e is)
