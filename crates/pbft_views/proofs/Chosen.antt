-- The best of concatenated lists of certificates.
use Rattle.std.proofs.Common.{◌≡◌, ℕ, ◌+◌, ◌<◌, Bool, true, false, cond, List, [], ◌∷◌, ◌++◌, length, get_or, take, arith, refl, sym, ◌∙◌, ap, append_assoc, append-nil, Option, Some, None}
use Rattle.std.specs.Prelude.{◌==◌, nat_lt}
use Rattle.std.proofs.lemmas.Bool.{eq-eqb, le-ltb, ne_eqb, lt-ltb, ltb-true, ltb-false}
use Rattle.std.proofs.lemmas.List.{take_more}
use Rattle.pbft_wire.specs.declared.messages.Certificate.{Certificate}
use Rattle.pbft_wire.specs.declared.messages.Change.{Change}
use Rattle.pbft_views.specs.Choice.{best, certificates_of, further, higher}

further-none : (o : Option Certificate) → further o None ≡ o
further-none None = refl
further-none (Some c) = refl

higher-along : (c : Certificate) (a b : Option Certificate) → higher c (further a b) ≡ further (higher c a) b
higher-along c None b = refl
higher-along c (Some e) None = sym (further-none (higher c (Some e)))
higher-along c (Some e) (Some g) = go (nat_lt c.view e.view) (nat_lt e.view g.view) refl refl
  where
    go : (x y : Bool) → nat_lt c.view e.view ≡ x → nat_lt e.view g.view ≡ y →
        higher c (higher e (Some g)) ≡ further (higher c (Some e)) (Some g)
    go true true t u =
        let l = ltb-true c.view e.view t in
        let m = ltb-true e.view g.view u in
        let k : nat_lt c.view g.view ≡ true = lt-ltb c.view g.view (omega (arith, l, m)) in
        rw (t, u) (rw k refl)
    go true false t u = rw (t, u) (rw t refl)
    go false true t u = rw (t, u) refl
    go false false t u =
        let l = ltb-false c.view e.view t in
        let m = ltb-false e.view g.view u in
        let k : nat_lt c.view g.view ≡ false = le-ltb c.view g.view (omega (arith, l, m)) in
        rw (t, u) (rw (t, k) refl)

pub best-append : (s : ℕ) (cs ds : List Certificate) → best s (cs ++ ds) ≡ further (best s cs) (best s ds)
best-append s [] ds = refl
best-append s (c ∷ cs) ds = ap (λ (o : Option Certificate). cond (c.slot.0 == s) (higher c o) o) (best-append s cs ds) ∙ go (c.slot.0 == s)
  where
    go : (b : Bool) → cond b (higher c (further (best s cs) (best s ds))) (further (best s cs) (best s ds)) ≡ further (cond b (higher c (best s cs)) (best s cs)) (best s ds)
    go true = higher-along c (best s cs) (best s ds)
    go false = refl

pub certificates-append : (xs ys : List Change) → certificates_of (xs ++ ys) ≡ certificates_of xs ++ certificates_of ys
certificates-append [] ys = refl
certificates-append (x ∷ xs) ys = ap (λ (z : List Certificate). x.certificates ++ z) (certificates-append xs ys) ∙ sym (append_assoc x.certificates (certificates_of xs) (certificates_of ys))

-- ---- one certificate more

best-next : (s : ℕ) (cs : List Certificate) (i : ℕ) (c : Certificate) (o : Option Certificate) → i < length cs →
    c ≡ get_or cs i c → o ≡ best s (take i cs) → best s (take (i + 1) cs) ≡ further o (best s (c ∷ []))
best-next s cs i c o lt is h =
    ap (best s) (take_more cs i c lt ∙ ap (λ (z : Certificate). take i cs ++ z ∷ []) (sym is)) ∙ best-append s (take i cs) (c ∷ []) ∙ ap (λ (z : Option Certificate). further z (best s (c ∷ []))) (sym h)

pub best-taken : (s : ℕ) (cs : List Certificate) (i : ℕ) (c : Certificate) (o : Option Certificate) → i < length cs →
    c ≡ get_or cs i c → c.slot.0 ≡ s → o ≡ best s (take i cs) → further o (Some c) ≡ best s (take (i + 1) cs)
best-taken s cs i c o lt is at h = sym (best-next s cs i c o lt is h ∙ ap (λ (b : Bool). further o (cond b (Some c) None)) (eq-eqb c.slot.0 s at))

pub best-passed : (s : ℕ) (cs : List Certificate) (i : ℕ) (c : Certificate) (o : Option Certificate) → i < length cs →
    c ≡ get_or cs i c → (c.slot.0 ≡ s → ⊥) → o ≡ best s (take i cs) → o ≡ best s (take (i + 1) cs)
best-passed s cs i c o lt is off h = sym (best-next s cs i c o lt is h ∙ ap (λ (b : Bool). further o (cond b (Some c) None)) (ne_eqb c.slot.0 s off) ∙ further-none o)

pub shown-more : (s : ℕ) (xs : List Change) (i : ℕ) (x : Change) (o : Option Certificate) → i < length xs →
    x ≡ get_or xs i x → o ≡ best s (certificates_of (take i xs)) →
    further o (best s x.certificates) ≡ best s (certificates_of (take (i + 1) xs))
shown-more s xs i x o lt is h = sym (
    ap (λ (z : List Change). best s (certificates_of z)) (take_more xs i x lt ∙ ap (λ (z : Change). take i xs ++ z ∷ []) (sym is)) ∙
    ap (best s) (certificates-append (take i xs) (x ∷ [])) ∙ best-append s (certificates_of (take i xs)) (x.certificates ++ []) ∙
    ap (λ (z : List Certificate). further (best s (certificates_of (take i xs))) (best s z)) (append-nil x.certificates) ∙
    ap (λ (z : Option Certificate). further z (best s x.certificates)) (sym h))
