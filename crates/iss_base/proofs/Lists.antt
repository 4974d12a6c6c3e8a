-- Conjoined tests, membership, extended lists, chains, and functions that are changed at one argument.
use Rattle.std.proofs.Common.{IsTrue, ◌↔◌, ◌∙◌, append_assoc, ◌≡◌, ◌≢◌, ◌⊎◌, inl, inr, ℕ, zero, suc, ◌+◌, ◌≤◌, ◌<◌, Bool, true, false, cond, eqb, not, ◌&&◌, ◌||◌, List, [], ◌∷◌, ◌++◌, length, Option, Some, None, refl, sym, ap, ap₂, subst, arith, length-append, true≢false}
use Rattle.std.proofs.lemmas.Bool.Decides.{eqb_tells, leb_tells, nat_tests}
use Rattle.std.specs.Ordering.{is_eq, nat_cmp}
use Rattle.iss_base.specs.Lists.{In, Different, Extends, oldest, Chain, first_of, nth, push_all, same_bytes, set_at, set_at2}

pub same_or_not : (a b : ℕ) → (a ≡ b) ⊎ (a ≢ b)
same_or_not a b = elim (eqb_tells a b) [ inl h ↦ inl h.1 | inr h ↦ inr h.1 ]

pub same_pair : (d k e l : ℕ) → ((d ≡ e) × (k ≡ l)) ⊎ ((d ≢ e) ⊎ (k ≢ l))
same_pair d k e l = elim (same_or_not d e) [
  | inl a ↦ elim (same_or_not k l) [ inl b ↦ inl (a, b) | inr b ↦ inr (inr b) ]
  | inr a ↦ inr (inl a)
]

pub is-eq : (a b : ℕ) → eqb a b ≡ true → a ≡ b
is-eq a b h = grind (arith, nat_tests)

pub eqb-same : (i : ℕ) → eqb i i ≡ true
eqb-same i = grind (arith, nat_tests)

pub eqb-other : (i j : ℕ) → i ≢ j → eqb i j ≡ false
eqb-other i j h = grind (arith, nat_tests)

-- numbers as the order of a map compares them
pub same_number : (a b : ℕ) → is_eq (nat_cmp a b) ≡ eqb a b
same_number a b = grind arith

-- two tests for the same fact are equal
pub same-test : (b t : Bool) {P : Type 0} → IsTrue b ↔ P → (t ≡ true) ↔ P → b ≡ t
same-test true true h k = refl
same-test false false h k = refl
same-test true false h k = absurd (true≢false (sym (k.1 (h.0 refl))))
same-test false true h k = absurd (true≢false (sym (h.1 (k.0 refl))))

-- conjoined tests

pub and-true : (a b : Bool) → (a && b) ≡ true → (a ≡ true) × (b ≡ true)
and-true true b h = (refl, h)
and-true false b h = absurd (true≢false (sym h))

pub both : (a b : Bool) → a ≡ true → b ≡ true → (a && b) ≡ true
both true b p q = q
both false b p q = absurd (true≢false (sym p))

pub or-false : (a b : Bool) → (a || b) ≡ false → (a ≡ false) × (b ≡ false)
or-false false b h = (refl, h)
or-false true b h = absurd (true≢false h)

pub neither : (a b : Bool) → a ≡ false → b ≡ false → (a || b) ≡ false
neither false b p q = q
neither true b p q = absurd (true≢false p)

pub or-flip : (a b : Bool) → (a || b) ≡ (b || a)
or-flip true true = refl
or-flip true false = refl
or-flip false true = refl
or-flip false false = refl

pub or-alone : (a : Bool) → (a || false) ≡ a
or-alone true = refl
or-alone false = refl

pub or-assoc : (a b c : Bool) → (a || (b || c)) ≡ ((a || b) || c)
or-assoc true b c = refl
or-assoc false b c = refl

pub or-cases : (a b : Bool) → (a || b) ≡ true → (a ≡ true) ⊎ (b ≡ true)
or-cases true b h = inl refl
or-cases false b h = inr h

pub not-false : (a : Bool) → not a ≡ false → a ≡ true
not-false true h = refl
not-false false h = absurd (true≢false h)

pub not-true : (a : Bool) → not a ≡ true → a ≡ false
not-true false h = refl
not-true true h = absurd (true≢false (sym h))

pub some-injective : {A : Type 0} (a b : A) → Some a ≡ Some b → a ≡ b
some-injective a b h = cc

pub none-some : {A : Type 0} (a : A) → None ≡ Some a → ⊥
none-some a h = cc

pub same_bytes-is : (a b : List ℕ) → same_bytes a b ≡ true → a ≡ b
same_bytes-is [] [] h = refl
same_bytes-is [] (y ∷ ys) h = absurd (true≢false (sym h))
same_bytes-is (x ∷ xs) [] h = absurd (true≢false (sym h))
same_bytes-is (x ∷ xs) (y ∷ ys) h =
    let k = and-true (eqb x y) (same_bytes xs ys) h in
    let head : x ≡ y = is-eq x y k.0 in
    let tail : xs ≡ ys = same_bytes-is xs ys k.1 in
    cc

pub same_bytes-refl : (a : List ℕ) → same_bytes a a ≡ true
same_bytes-refl [] = refl
same_bytes-refl (x ∷ xs) = both (eqb x x) (same_bytes xs xs) (eqb-same x) (same_bytes-refl xs)

-- equal suffixes of lists whose prefixes have equal lengths
pub ends-same : {A : Type 0} (a b x y : List A) → length a ≡ length b → a ++ x ≡ b ++ y → (a ≡ b) × (x ≡ y)
ends-same [] [] x y l h = (refl, h)
ends-same [] (k ∷ b) x y l h = absurd (omega (arith, l))
ends-same (j ∷ a) [] x y l h = absurd (omega (arith, l))
ends-same {A} (j ∷ a) (k ∷ b) x y l h =
    let head : j ≡ k = cc in
    let tail : a ++ x ≡ b ++ y = cc in
    let r = ends-same a b x y (omega (arith, l)) tail in
    (ap₂ (λ (z : A) (zs : List A). z ∷ zs) head r.0, r.1)

-- membership

pub in_append : {A : Type 0} (x : A) (xs ys : List A) → In x (xs ++ ys) → In x xs ⊎ In x ys
in_append x [] ys h = inr h
in_append x (y ∷ xs) ys (inl e) = inl (inl e)
in_append x (y ∷ xs) ys (inr h) = elim (in_append x xs ys h) [ inl k ↦ inl (inr k) | inr k ↦ inr k ]

pub in_left : {A : Type 0} (x : A) (xs ys : List A) → In x xs → In x (xs ++ ys)
in_left x [] ys h = absurd h
in_left x (y ∷ xs) ys (inl e) = inl e
in_left x (y ∷ xs) ys (inr h) = inr (in_left x xs ys h)

pub in_right : {A : Type 0} (x : A) (xs ys : List A) → In x ys → In x (xs ++ ys)
in_right x [] ys h = h
in_right x (y ∷ xs) ys h = inr (in_right x xs ys h)

pub nth-in : {A : Type 0} (xs : List A) (k : ℕ) (x : A) → nth xs k ≡ Some x → In x xs
nth-in [] k x h = absurd (cc)
nth-in (y ∷ xs) zero x h = inl (let q : y ≡ x = some-injective y x h in sym q)
nth-in (y ∷ xs) (suc k) x h = inr (nth-in xs k x h)

-- lists without repeated elements

pub different-append : {A : Type 0} (xs ys : List A) → Different xs → Different ys → ((z : A) → In z xs → In z ys → ⊥) →
    Different (xs ++ ys)
different-append [] ys dx dy apart = dy
different-append (x ∷ xs) ys dx dy apart = (
  λ i. elim (in_append x xs ys i) [ inl a ↦ dx.0 a | inr b ↦ apart x (inl refl) b ],
  different-append xs ys dx.1 dy (λ z i. apart z (inr i)),
)

pub different-left : {A : Type 0} (xs ys : List A) → Different (xs ++ ys) → Different xs
different-left [] ys d = tt
different-left (x ∷ xs) ys d = (λ k. d.0 (in_left x xs ys k), different-left xs ys d.1)

pub different-right : {A : Type 0} (xs ys : List A) → Different (xs ++ ys) → Different ys
different-right [] ys d = d
different-right (x ∷ xs) ys d = different-right xs ys d.1

pub different-apart : {A : Type 0} (xs ys : List A) → Different (xs ++ ys) → (z : A) → In z xs → In z ys → ⊥
different-apart [] ys d z a b = a
different-apart (x ∷ xs) ys d z (inl e) b = d.0 (in_right x xs ys (rw (← e) b))
different-apart (x ∷ xs) ys d z (inr a) b = different-apart xs ys d.1 z a b

-- functions changed at one argument

pub set_at-same : {A : Type 0} (f : ℕ → A) (i : ℕ) (x : A) → set_at f i x i ≡ x
set_at-same f i x = rw (eqb-same i) refl

pub set_at-other : {A : Type 0} (f : ℕ → A) (i : ℕ) (x : A) (j : ℕ) → j ≢ i → set_at f i x j ≡ f j
set_at-other f i x j h = rw (eqb-other j i h) refl

pub set_at2-same : {A : Type 0} (f : ℕ → ℕ → A) (e l : ℕ) (x : A) → set_at2 f e l x e l ≡ x
set_at2-same f e l x = rw (eqb-same e, eqb-same l) refl

pub set_at2-other : {A : Type 0} (f : ℕ → ℕ → A) (e l : ℕ) (x : A) (d k : ℕ) → (d ≢ e) ⊎ (k ≢ l) →
    set_at2 f e l x d k ≡ f d k
set_at2-other f e l x d k (inl h) = rw (eqb-other d e h) refl
set_at2-other f e l x d k (inr h) = elim (eqb d e) as (λ b. cond (b && eqb k l) x (f d k) ≡ f d k) [
  | true ↦
      rw (eqb-other k l h) refl
  | false ↦ refl
]

pub set_at2-at : {A : Type 0} (f : ℕ → ℕ → A) (e l : ℕ) (x : A) (d k : ℕ) → d ≡ e → k ≡ l → set_at2 f e l x d k ≡ x
set_at2-at f e l x d k a b = rw (a, b) (set_at2-same f e l x)

pub set_at2-cons : {A : Type 0} (f : ℕ → ℕ → List A) (e l : ℕ) (x : A) (d k : ℕ) → (newer : List A)
    × (set_at2 f e l (x ∷ f e l) d k ≡ newer ++ f d k)
set_at2-cons {A} f e l x d k = go (same_or_not d e) (same_or_not k l)
  where
    go : (d ≡ e) ⊎ (d ≢ e) → (k ≡ l) ⊎ (k ≢ l) → (newer : List A) × (set_at2 f e l (x ∷ f e l) d k ≡ newer ++ f d k)
    go (inl a) (inl b) = (x ∷ [], rw (a, b) (set_at2-same f e l (x ∷ f e l)))
    go (inl a) (inr b) = ([], set_at2-other f e l (x ∷ f e l) d k (inr b))
    go (inr a) b = ([], set_at2-other f e l (x ∷ f e l) d k (inl a))

-- the first of two optional values

pub first-cases : {A : Type 0} (a b : Option A) (v : A) → first_of a b ≡ Some v → (a ≡ Some v)
    ⊎ ((a ≡ None) × (b ≡ Some v))
first-cases None b v h = inr (refl, h)
first-cases (Some x) b v h = inl h

pub first-some : {A : Type 0} (a b c : Option A) (v : A) → c ≡ Some v → first_of a (first_of b c) ≡ None → ⊥
first-some None None c v h q = cc
first-some None (Some x) c v h q = cc
first-some (Some x) b c v h q = cc

pub first_of-none : {A : Type 0} (o : Option A) → first_of o None ≡ o
first_of-none None = refl
first_of-none (Some x) = refl

-- extension of lists that are kept newest first

pub extends-refl : {A : Type 0} (a : List A) → Extends a a
extends-refl a = ([], refl)

pub extends-cons : {A : Type 0} (a b : List A) (v : A) → Extends a b → Extends a (v ∷ b)
extends-cons a b v x = (v ∷ x.0, ap (λ t. v ∷ t) x.1)

pub extends-tail : {A : Type 0} (v : A) (a b : List A) → Extends (v ∷ a) b → Extends a b
extends-tail v a b x = (x.0 ++ (v ∷ []), x.1 ∙ sym (append_assoc x.0 (v ∷ []) a))

pub extends-trans : {A : Type 0} (a b c : List A) → Extends a b → Extends b c → Extends a c
extends-trans a b c x y = (y.0 ++ x.0, y.1 ∙ ap (λ t. y.0 ++ t) x.1 ∙ sym (append_assoc y.0 x.0 a))

pub extends-length : {A : Type 0} (a b : List A) → Extends a b → length a ≤ length b
extends-length a b x = rw x.1 (omega (arith, length-append x.0 a))

next : {A : Type 0} (a newer : List A) → 0 < length newer → (v : A) × Extends (v ∷ a) (newer ++ a)
next a [] h = absurd (omega arith)
next a (y ∷ []) h = (y, extends-refl (y ∷ a))
next a (y ∷ (z ∷ rest)) h = let r = next a (z ∷ rest) (omega arith) in
    (r.0, extends-cons (r.0 ∷ a) ((z ∷ rest) ++ a) y r.1)

-- the element that follows a shorter list
pub extends-next : {A : Type 0} (a b : List A) → Extends a b → length a < length b → (v : A) × Extends (v ∷ a) b
extends-next {A} a b x lt = let r = next a x.0 (omega (arith, length-append x.0 a, ap length x.1)) in
    (r.0, subst (λ (t : List A). Extends (r.0 ∷ a) t) (sym x.1) r.1)

-- the n oldest

pub length-oldest : {A : Type 0} (n : ℕ) (xs : List A) → n ≤ length xs → length (oldest n xs) ≡ n
length-oldest n [] h = omega arith
length-oldest n (v ∷ xs) h =
    elim (leb_tells n (length xs)) [
      | inl t ↦ rw t.0 (length-oldest n xs t.1)
      | inr t ↦ rw t.0 (omega (arith, t.1, h))
    ]

pub oldest-append : {A : Type 0} (n : ℕ) (newer a : List A) → n ≤ length a → oldest n (newer ++ a) ≡ oldest n a
oldest-append n [] a h = refl
oldest-append n (v ∷ newer) a h =
    let le : n ≤ length (newer ++ a) = omega (arith, length-append newer a, h) in
    elim (leb_tells n (length (newer ++ a))) [
      | inl t ↦ rw t.0 (oldest-append n newer a h)
      | inr t ↦ absurd (omega (arith, t.1, le))
    ]

pub oldest-extends : {A : Type 0} (n : ℕ) (a b : List A) → Extends a b → n ≤ length a → oldest n b ≡ oldest n a
oldest-extends n a b x h = rw x.1 (oldest-append n x.0 a h)

pub oldest-part : {A : Type 0} (n : ℕ) (xs : List A) → Extends (oldest n xs) xs
oldest-part n [] = ([], refl)
oldest-part n (v ∷ xs) = elim (leb_tells n (length xs)) [
  | inl t ↦ let x = oldest-part n xs in rw t.0 (v ∷ x.0, ap (λ ys. v ∷ ys) x.1)
  | inr t ↦ rw t.0 ([], refl)
]

pub oldest-all : {A : Type 0} (n : ℕ) (a : List A) → length a ≤ n → oldest n a ≡ a
oldest-all n [] h = refl
oldest-all n (v ∷ a) h = elim (leb_tells n (length a)) [ inl t ↦ absurd (omega (arith, t.1, h)) | inr t ↦ rw t.0 refl ]

pub oldest-holds : {A : Type 0} (n : ℕ) (newer a : List A) → length a ≤ n → Extends a (oldest n (newer ++ a))
oldest-holds n [] a h = rw (oldest-all n a h) (extends-refl a)
oldest-holds n (v ∷ newer) a h =
    elim (leb_tells n (length (newer ++ a))) [
      | inl t ↦ rw t.0 (oldest-holds n newer a h)
      | inr t ↦ rw t.0 (v ∷ newer, refl)
    ]

-- chains

pub chain-map : {A : Type 0} (P Q : List A → A → Type 0) → ((older : List A) (v : A) → P older v → Q older v) →
    (xs : List A) → Chain P xs → Chain Q xs
chain-map P Q f [] h = tt
chain-map P Q f (v ∷ older) h = (chain-map P Q f older h.0, f older v h.1)

pub chain-part : {A : Type 0} (P : List A → A → Type 0) (newer : List A) (v : A) (older : List A) →
    Chain P (newer ++ (v ∷ older)) → Chain P older × P older v
chain-part P [] v older h = h
chain-part P (x ∷ newer) v older h = chain-part P newer v older h.0

pub chain-oldest : {A : Type 0} (P : List A → A → Type 0) (n : ℕ) (xs : List A) → Chain P xs → Chain P (oldest n xs)
chain-oldest P n [] h = tt
chain-oldest P n (v ∷ xs) h =
    elim (leb_tells n (length xs)) [ inl t ↦ rw t.0 (chain-oldest P n xs h.0) | inr t ↦ rw t.0 h ]

-- Two chains that agree on the next element over each list: one extends the other.
pub same_length : {A : Type 0} (P Q : List A → A → Type 0) →
    ((older : List A) (v u : A) → Chain P older → Chain Q older → P older v → Q older u → v ≡ u) → (a b : List A) →
    Chain P a → Chain Q b → length a ≡ length b → a ≡ b
same_length P Q meet [] [] p q e = refl
same_length P Q meet [] (u ∷ b) p q e = absurd (omega (arith, e))
same_length P Q meet (v ∷ a) [] p q e = absurd (omega (arith, e))
same_length P Q meet (v ∷ a) (u ∷ b) p q e =
    let tails : a ≡ b = same_length P Q meet a b p.0 q.0 (omega (arith, e)) in
    let qa : Chain Q a = subst (λ t. Chain Q t) (sym tails) q.0 in
    let qu : Q a u = subst (λ t. Q t u) (sym tails) q.1 in
    let heads : v ≡ u = meet a v u p.0 qa p.1 qu in
    cc

pub chains-meet : {A : Type 0} (P Q : List A → A → Type 0) →
    ((older : List A) (v u : A) → Chain P older → Chain Q older → P older v → Q older u → v ≡ u) → (a b : List A) →
    Chain P a → Chain Q b → length a ≤ length b → Extends a b
chains-meet P Q meet a [] p q h = let e : a ≡ [] = same_length P Q meet a [] p q (omega (arith, h)) in ([], sym e)
chains-meet P Q meet a (u ∷ b) p q h =
    elim (leb_tells (length a) (length b)) [
      | inl t ↦ extends-cons a b u (chains-meet P Q meet a b p q.0 t.1)
      | inr t ↦ let e : a ≡ u ∷ b = same_length P Q meet a (u ∷ b) p q (omega (arith, t.1, h)) in ([], sym e)
    ]

-- values put over a list in order

pub length-over : {A : Type 0} (vs log : List A) → length (push_all vs log) ≡ length vs + length log
length-over [] log = omega arith
length-over (v ∷ vs) log = omega (arith, length-over vs (v ∷ log))

pub over-extends : {A : Type 0} (vs log : List A) → Extends log (push_all vs log)
over-extends [] log = extends-refl log
over-extends (v ∷ vs) log = extends-tail v log (push_all vs (v ∷ log)) (over-extends vs (v ∷ log))

pub over-at : {A : Type 0} (vs log : List A) (k : ℕ) (x : A) → nth vs k ≡ Some x → (older : List A)
    × Extends (x ∷ older) (push_all vs log) × (length older ≡ k + length log) × Extends log older
over-at [] log k x h = absurd (cc)
over-at (v ∷ vs) log zero x h = let q : v ≡ x = some-injective v x h in
    (log, rw (← q) (over-extends vs (v ∷ log)), omega arith, extends-refl log)
over-at (v ∷ vs) log (suc k) x h = let r = over-at vs (v ∷ log) k x h in
    (r.0, r.1, omega (arith, r.2), extends-tail v log r.0 r.3)

pub nth-some : {A : Type 0} (xs : List A) (k : ℕ) → k < length xs → (x : A) × (nth xs k ≡ Some x)
nth-some [] k h = absurd (omega (arith, h))
nth-some (x ∷ xs) zero h = (x, refl)
nth-some (x ∷ xs) (suc k) h = nth-some xs k (omega (arith, h))

pub nth-below : {A : Type 0} (xs : List A) (k : ℕ) (x : A) → nth xs k ≡ Some x → k < length xs
nth-below [] k x h = absurd (cc)
nth-below (y ∷ xs) zero x h = omega arith
nth-below (y ∷ xs) (suc k) x h = omega (arith, nth-below xs k x h)

pub nth-beyond : {A : Type 0} (xs : List A) (k : ℕ) → length xs ≤ k → nth xs k ≡ None
nth-beyond [] k h = refl
nth-beyond (x ∷ xs) zero h = absurd (omega arith)
nth-beyond (x ∷ xs) (suc k) h = nth-beyond xs k (omega arith)
