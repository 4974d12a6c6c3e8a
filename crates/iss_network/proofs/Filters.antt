-- Lists that are filtered, and ascending lists with the same elements.
use Rattle.std.proofs.Common.{◌∙◌, ◌≡◌, ◌≢◌, ◌⊎◌, inl, inr, ℕ, zero, suc, ◌+◌, ◌<◌, ◌≤◌, Bool, true, false, not, cond, ◌==◌, ◌&&◌, List, [], ◌∷◌, ◌++◌, length, filter, sum_by, refl, sym, ap, arith, get_or}
use Rattle.std.specs.List.{list_all}
use Rattle.std.specs.List.Sorted.{IsPermutation, IsSorted}
use Rattle.std.specs.Ordering.{nat_cmp}
use Rattle.std.proofs.lemmas.Bool.{cases_Bool}
use Rattle.std.proofs.lemmas.Bool.Decides.{eqb_tells, nat_tests}
use Rattle.std.proofs.lemmas.List.Elements.{filter-append}
use Rattle.std.proofs.lemmas.List.Sums.{sum_by-append}
use Rattle.std.proofs.lemmas.List.Sorted.{sum_by-IsPermutation, IsNonDecreasingBy-from_sort}
use Rattle.iss_base.specs.Lists.{below}

-- booleans

pub same_or_not : (a b : ℕ) → ((a == b) ≡ true) × (a ≡ b) ⊎ ((a == b) ≡ false) × (a ≢ b)
same_or_not a b = eqb_tells a b

pub same_number : (a : ℕ) → (a == a) ≡ true
same_number a = grind (arith, nat_tests)

pub other_number : (a b : ℕ) → a ≢ b → (a == b) ≡ false
other_number a b h = grind (arith, nat_tests)

pub and_swap : (a b : Bool) → (a && b) ≡ (b && a)
and_swap true true = refl
and_swap true false = refl
and_swap false true = refl
and_swap false false = refl

pub and_self : (a : Bool) → (a && a) ≡ a
and_self true = refl
and_self false = refl

pub and_not : (a : Bool) → (a && not a) ≡ false
and_not true = refl
and_not false = refl

-- filters

pub filter_yes : {A : Type 0} (p : A → Bool) (x : A) (xs : List A) → p x ≡ true → filter p (x ∷ xs) ≡ x ∷ filter p xs
filter_yes p x xs e = rw e refl

pub filter_no : {A : Type 0} (p : A → Bool) (x : A) (xs : List A) → p x ≡ false → filter p (x ∷ xs) ≡ filter p xs
filter_no p x xs e = rw e refl

pub filter_cong : {A : Type 0} (p q : A → Bool) → ((x : A) → p x ≡ q x) → (xs : List A) → filter p xs ≡ filter q xs
filter_cong p q h [] = refl
filter_cong p q h (x ∷ xs) = rw (h x, filter_cong p q h xs) refl

pub filter_cong_all : {A : Type 0} (r p q : A → Bool) → ((x : A) → r x ≡ true → p x ≡ q x) → (xs : List A) → list_all r xs ≡ true → filter p xs ≡ filter q xs
filter_cong_all r p q h [] all = refl
filter_cong_all {A} r p q h (x ∷ xs) all = go (cases_Bool (r x)) (filter_cong_all r p q h xs)
  where
    go : (r x ≡ true) ⊎ (r x ≡ false) → (list_all r xs ≡ true → filter p xs ≡ filter q xs) → filter p (x ∷ xs) ≡ filter q (x ∷ xs)
    go (inl e) ih =
        let rest : list_all r xs ≡ true = rw e at all in
        let tails : filter p xs ≡ filter q xs = ih rest in
        rw (h x e, tails) refl
    go (inr e) ih = let wrong : false ≡ true = rw e at all in absurd (cc)

pub filter_filter : {A : Type 0} (p q : A → Bool) (xs : List A) → filter p (filter q xs) ≡ filter (λ x. p x && q x) xs
filter_filter p q [] = refl
filter_filter {A} p q (x ∷ xs) = go (cases_Bool (q x)) (cases_Bool (p x)) (filter_filter p q xs)
  where
    go : (q x ≡ true) ⊎ (q x ≡ false) → (p x ≡ true) ⊎ (p x ≡ false) → filter p (filter q xs) ≡ filter (λ y. p y && q y) xs → filter p (filter q (x ∷ xs)) ≡ filter (λ y. p y && q y) (x ∷ xs)
    go (inl e) (inl f) ih =
        let both : (p x && q x) ≡ true = rw (e, f) refl in
        ap (filter p) (filter_yes q x xs e) ∙ filter_yes p x (filter q xs) f ∙ ap (λ l. x ∷ l) ih ∙ sym (filter_yes (λ y. p y && q y) x xs both)
    go (inl e) (inr f) ih =
        let both : (p x && q x) ≡ false = rw f refl in
        ap (filter p) (filter_yes q x xs e) ∙ filter_no p x (filter q xs) f ∙ ih ∙ sym (filter_no (λ y. p y && q y) x xs both)
    go (inr e) f ih =
        let both : (p x && q x) ≡ false = and_swap (p x) (q x) ∙ rw e refl in
        ap (filter p) (filter_no q x xs e) ∙ ih ∙ sym (filter_no (λ y. p y && q y) x xs both)

pub filter_swap : {A : Type 0} (p q : A → Bool) (xs : List A) → filter p (filter q xs) ≡ filter q (filter p xs)
filter_swap p q xs =
    filter_filter p q xs ∙ filter_cong (λ x. p x && q x) (λ x. q x && p x) (λ x. and_swap (p x) (q x)) xs ∙ sym (filter_filter q p xs)

pub filter_twice : {A : Type 0} (p : A → Bool) (xs : List A) → filter p (filter p xs) ≡ filter p xs
filter_twice p xs = filter_filter p p xs ∙ filter_cong (λ x. p x && p x) p (λ x. and_self (p x)) xs

pub filter_never : {A : Type 0} (p : A → Bool) → ((x : A) → p x ≡ false) → (xs : List A) → filter p xs ≡ []
filter_never p h [] = refl
filter_never p h (x ∷ xs) = filter_no p x xs (h x) ∙ filter_never p h xs

-- if nothing passes, all fail
pub filter_rest : {A : Type 0} (p : A → Bool) (xs : List A) → filter p xs ≡ [] → filter (λ x. not (p x)) xs ≡ xs
filter_rest p [] h = refl
filter_rest {A} p (x ∷ xs) h = go (cases_Bool (p x)) (filter_rest p xs)
  where
    go : (p x ≡ true) ⊎ (p x ≡ false) → (filter p xs ≡ [] → filter (λ y. not (p y)) xs ≡ xs) → filter (λ y. not (p y)) (x ∷ xs) ≡ x ∷ xs
    go (inl e) ih = let wrong : x ∷ filter p xs ≡ [] = sym (filter_yes p x xs e) ∙ h in absurd (cc)
    go (inr e) ih =
        let none : filter p xs ≡ [] = sym (filter_no p x xs e) ∙ h in
        let yes : not (p x) ≡ true = rw e refl in
        filter_yes (λ y. not (p y)) x xs yes ∙ ap (λ l. x ∷ l) (ih none)

pub list_all_filter : {A : Type 0} (r p : A → Bool) (xs : List A) → list_all r xs ≡ true → list_all r (filter p xs) ≡ true
list_all_filter r p [] h = refl
list_all_filter {A} r p (x ∷ xs) h = go (cases_Bool (r x)) (cases_Bool (p x)) (list_all_filter r p xs)
  where
    go : (r x ≡ true) ⊎ (r x ≡ false) → (p x ≡ true) ⊎ (p x ≡ false) → (list_all r xs ≡ true → list_all r (filter p xs) ≡ true) → list_all r (filter p (x ∷ xs)) ≡ true
    go (inl e) (inl f) ih =
        let rest : list_all r xs ≡ true = rw e at h in
        ap (list_all r) (filter_yes p x xs f) ∙ rw e (ih rest)
    go (inl e) (inr f) ih =
        let rest : list_all r xs ≡ true = rw e at h in
        ap (list_all r) (filter_no p x xs f) ∙ ih rest
    go (inr e) f ih = let wrong : false ≡ true = rw e at h in absurd (cc)

pub list_all_mono : {A : Type 0} (p q : A → Bool) → ((x : A) → p x ≡ true → q x ≡ true) → (xs : List A) → list_all p xs ≡ true → list_all q xs ≡ true
list_all_mono p q h [] all = refl
list_all_mono {A} p q h (x ∷ xs) all = go (cases_Bool (p x)) (list_all_mono p q h xs)
  where
    go : (p x ≡ true) ⊎ (p x ≡ false) → (list_all p xs ≡ true → list_all q xs ≡ true) → list_all q (x ∷ xs) ≡ true
    go (inl e) ih =
        let rest : list_all p xs ≡ true = rw e at all in
        rw (h x e) (ih rest)
    go (inr e) ih = let wrong : false ≡ true = rw e at all in absurd (cc)

pub filter_below : (p q : ℕ → Bool) (n : ℕ) → ((x : ℕ) → x < n → p x ≡ q x) → filter p (below n) ≡ filter q (below n)
filter_below p q zero h = refl
filter_below p q (suc n) h =
    filter-append p (below n) (n ∷ [])
    ∙ (let front : filter p (below n) ≡ filter q (below n) = filter_below p q n (λ x l. h x (omega arith)) in
    let end : p n ≡ q n = h n (omega arith) in
    rw (front, end) refl)
    ∙ sym (filter-append q (below n) (n ∷ []))

-- how often k occurs in a list
abbrev pub times : ℕ → List ℕ → ℕ
times k [] = 0
times k (x ∷ xs) = cond (k == x) 1 0 + times k xs

pub times-append : (k : ℕ) (xs ys : List ℕ) → times k (xs ++ ys) ≡ times k xs + times k ys
times-append k [] ys = omega arith
times-append k (x ∷ xs) ys = omega (arith, times-append k xs ys)

cond_same : (b : Bool) (t : ℕ) → t ≡ cond b t t
cond_same true t = refl
cond_same false t = refl

nothing_there : (b : Bool) (t : ℕ) → cond b (0 + t) 0 ≡ cond b t 0
nothing_there true t = omega arith
nothing_there false t = refl

nothing_more : (b : Bool) (t : ℕ) → 0 + cond b t 0 ≡ cond b (0 + t) 0
nothing_more true t = refl
nothing_more false t = refl

pub times-filter : (k : ℕ) (p : ℕ → Bool) (xs : List ℕ) → times k (filter p xs) ≡ cond (p k) (times k xs) 0
times-filter k p [] = cond_same (p k) 0
times-filter k p (x ∷ xs) = go (cases_Bool (p x)) (same_or_not k x) (times-filter k p xs)
  where
    go : (p x ≡ true) ⊎ (p x ≡ false) → ((k == x) ≡ true) × (k ≡ x) ⊎ ((k == x) ≡ false) × (k ≢ x) → times k (filter p xs) ≡ cond (p k) (times k xs) 0 → times k (filter p (x ∷ xs)) ≡ cond (p k) (times k (x ∷ xs)) 0
    go (inl e) (inl s) ih =
        let pk : p k ≡ true = ap p s.1 ∙ e in
        let i : times k (filter p xs) ≡ times k xs = rw pk at ih in
        ap (times k) (filter_yes p x xs e) ∙ rw (s.0, pk, i) refl
    go (inr e) (inl s) ih =
        let pk : p k ≡ false = ap p s.1 ∙ e in
        let i : times k (filter p xs) ≡ 0 = rw pk at ih in
        ap (times k) (filter_no p x xs e) ∙ i ∙ rw pk refl
    go (inl e) (inr s) ih = ap (times k) (filter_yes p x xs e) ∙ rw (s.0, ih) (nothing_more (p k) (times k xs))
    go (inr e) (inr s) ih = ap (times k) (filter_no p x xs e) ∙ ih ∙ rw s.0 (sym (nothing_there (p k) (times k xs)))

times_is : (k : ℕ) (xs : List ℕ) → times k xs ≡ sum_by (λ x. cond (k == x) 1 0) xs
times_is k [] = refl
times_is k (x ∷ xs) =
    let one : sum_by (λ y. cond (k == y) 1 0) (x ∷ []) ≡ cond (k == x) 1 0 = grind arith in
    let both = sum_by-append (λ y. cond (k == y) 1 0) (x ∷ []) xs in
    omega (arith, one, both, times_is k xs)

pub times-permutation : (k : ℕ) (xs ys : List ℕ) → IsPermutation xs ys → times k ys ≡ times k xs
times-permutation k xs ys h =
    times_is k ys ∙ sum_by-IsPermutation (λ x. cond (k == x) 1 0) xs ys h ∙ sym (times_is k xs)

-- ascending lists

abbrev pub Least : ℕ → List ℕ → Type 0
Least n [] = Unit {0}
Least n (x ∷ xs) = (n ≤ x) × Least n xs

abbrev pub Up : List ℕ → Type 0
Up [] = Unit {0}
Up (x ∷ xs) = Least x xs × Up xs

abbrev Most : ℕ → List ℕ → Type 0
Most n [] = Unit {0}
Most n (x ∷ xs) = (x ≤ n) × Most n xs

least_filter : (n : ℕ) (p : ℕ → Bool) (xs : List ℕ) → Least n xs → Least n (filter p xs)
least_filter n p [] h = tt
least_filter n p (x ∷ xs) h =
    let rest = least_filter n p xs h.1 in
    elim (p x) as (λ b. Least n (cond b (x ∷ filter p xs) (filter p xs))) [ true ↦ (h.0, rest) | false ↦ rest ]

pub up_filter : (p : ℕ → Bool) (xs : List ℕ) → Up xs → Up (filter p xs)
up_filter p [] h = tt
up_filter p (x ∷ xs) h =
    let rest = up_filter p xs h.1 in
    let least = least_filter x p xs h.0 in
    elim (p x) as (λ b. Up (cond b (x ∷ filter p xs) (filter p xs))) [ true ↦ (least, rest) | false ↦ rest ]

least_end : (x n : ℕ) (xs : List ℕ) → x ≤ n → Least x xs → Least x (xs ++ n ∷ [])
least_end x n [] l h = (l, tt)
least_end x n (y ∷ ys) l h = (h.0, least_end x n ys l h.1)

up_end : (n : ℕ) (xs : List ℕ) → Up xs → Most n xs → Up (xs ++ n ∷ [])
up_end n [] u m = (tt, tt)
up_end n (x ∷ xs) u m = (least_end x n xs m.0 u.0, up_end n xs u.1 m.1)

most_end : (n m : ℕ) (xs : List ℕ) → n ≤ m → Most n xs → Most m (xs ++ n ∷ [])
most_end n m [] l h = (l, tt)
most_end n m (x ∷ xs) l h = (omega (arith, h.0), most_end n m xs l h.1)

most_below : (n : ℕ) → Most n (below n)
most_below zero = tt
most_below (suc n) = most_end n (suc n) (below n) (omega arith) (most_below n)

pub up_below : (n : ℕ) → Up (below n)
up_below zero = tt
up_below (suc n) = up_end n (below n) (up_below n) (most_below n)

least_from_index : (n : ℕ) (xs : List ℕ) → ((j : ℕ) → j < length xs → n ≤ get_or xs j 0) → Least n xs
least_from_index n [] h = tt
least_from_index n (x ∷ xs) h = (h 0 (omega arith), least_from_index n xs (λ j l. h (suc j) (omega arith)))

up_from_index : (xs : List ℕ) → ((i j : ℕ) → i ≤ j → j < length xs → get_or xs i 0 ≤ get_or xs j 0) → Up xs
up_from_index [] h = tt
up_from_index (x ∷ xs) h =
    (least_from_index x xs (λ j l. h 0 (suc j) (omega arith) (omega arith)), up_from_index xs (λ i j m l. h (suc i) (suc j) (omega arith) (omega arith)))

pub up_sorted : (xs : List ℕ) → IsSorted nat_cmp xs → Up xs
up_sorted xs h = up_from_index xs (λ i j l m. IsNonDecreasingBy-from_sort (λ x. x) xs h i j 0 l m)

times_small : (k x : ℕ) (xs : List ℕ) → k < x → Least x xs → times k xs ≡ 0
times_small k x [] l h = refl
times_small k x (y ∷ ys) l h =
    let o : (k == y) ≡ false = other_number k y (omega (arith, h.0)) in
    let t : times k ys ≡ 0 = times_small k x ys l h.1 in
    rw (o, t) refl

times_head : (x : ℕ) (xs : List ℕ) → 0 < times x (x ∷ xs)
times_head x xs = rw (same_number x) (omega arith)

same_tails : (k x y a b : ℕ) → x ≡ y → cond (k == x) 1 0 + a ≡ cond (k == y) 1 0 + b → a ≡ b
same_tails k x y a b e h =
    let one : ℕ → ℕ = λ z. cond (k == z) 1 0 in
    let f : one x ≡ one y = ap one e in
    omega (arith, h, f)

pub same_ascending : (xs ys : List ℕ) → Up xs → Up ys → ((k : ℕ) → times k xs ≡ times k ys) → xs ≡ ys
same_ascending [] [] u v h = refl
same_ascending [] (y ∷ ys) u v h = absurd (omega (arith, h y, times_head y ys))
same_ascending (x ∷ xs) [] u v h = absurd (omega (arith, h x, times_head x xs))
same_ascending (x ∷ xs) (y ∷ ys) u v h =
    let mine : y ≤ y = omega arith in
    let own : x ≤ x = omega arith in
    let not_less : x < y → ⊥ = λ l. omega (arith, h x, times_head x xs, times_small x y (y ∷ ys) l (mine, v.0)) in
    let not_more : y < x → ⊥ = λ l. omega (arith, h y, times_head y ys, times_small y x (x ∷ xs) l (own, u.0)) in
    let same : x ≡ y = omega arith in
    let tails : xs ≡ ys = same_ascending xs ys u.1 v.1 (λ k. same_tails k x y (times k xs) (times k ys) same (h k)) in
    cc
