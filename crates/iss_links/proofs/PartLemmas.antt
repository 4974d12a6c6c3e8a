-- The received parts of a packet, in order of their indices.
use Rattle.std.proofs.Common.{◌≡◌, ℕ, zero, suc, ◌+◌, ◌<◌, ◌≤◌, ◌==◌, ◌||◌, ◌⊎◌, Bool, true, false, nat_lt, cond, List, [], ◌∷◌, ◌++◌, length, map, Option, Some, None, is_some, unwrap_or, refl, ap, sym, ◌∙◌, subst, arith, inl, inr}
use Rattle.std.proofs.lemmas.Bool.{cases_Bool, cases_lt, false≢true, lt-ltb, le-ltb, eqb-true, eq-eqb}
use Rattle.iss_base.specs.Lists.{below}
use Rattle.iss_links.specs.Reassembly.{has_part, insert_part}

-- n numbers, from lo on
abbrev pub range : ℕ → ℕ → List ℕ
range lo zero = []
range lo (suc n) = lo ∷ range (suc lo) n

range-snoc : (lo n : ℕ) → range lo n ++ (lo + n) ∷ [] ≡ range lo (suc n)
range-snoc lo zero = let e : lo + zero ≡ lo = omega arith in rw e refl
range-snoc lo (suc n) =
    let e : lo + suc n ≡ suc lo + n = omega arith in
    rw e (ap (λ (xs : List ℕ). lo ∷ xs) (range-snoc (suc lo) n))

pub below-range : (n : ℕ) → below n ≡ range 0 n
below-range zero = refl
below-range (suc n) = rw (below-range n) (let e : 0 + n ≡ n = omega arith in subst (λ (k : ℕ). range 0 n ++ k ∷ [] ≡ range 0 (suc n)) e (range-snoc 0 n))

abbrev pub Parts : Type 0
Parts = List (ℕ × List ℕ)

-- the bytes of part k
abbrev pub part_at : ℕ → Parts → Option (List ℕ)
part_at k [] = None
part_at k (p ∷ ps) = cond (k == p.0) (Some p.1) (part_at k ps)

-- strictly ascending indices from lo on, all below n
abbrev pub Ascending : ℕ → ℕ → Parts → Type 0
Ascending lo n [] = Unit {0}
Ascending lo n (p ∷ ps) = (lo ≤ p.0) × (p.0 < n) × Ascending (suc p.0) n ps

pub there : (k : ℕ) (ps : Parts) → has_part k ps ≡ is_some (part_at k ps)
there k [] = refl
there k (p ∷ ps) = grind (arith, there k ps)

later-none : (j k : ℕ) (ps : Parts) → ((j == k) || has_part j ps) ≡ false → has_part j ps ≡ false
later-none j k ps none = grind (arith, none)

other : (j k : ℕ) (b : Bool) → ((j == k) || b) ≡ false → j ≡ k → ⊥
other j k b none same = grind (arith, none, same)

ascending-step : (lo n j : ℕ) (bytes : List ℕ) (p : ℕ × List ℕ) (ps : Parts) → Ascending lo n (p ∷ ps) → lo ≤ j → j < n → has_part j (p ∷ ps) ≡ false → (suc p.0 ≤ j → Ascending (suc p.0) n (insert_part j bytes ps))
    → (j < p.0) ⊎ (p.0 ≤ j) → Ascending lo n (insert_part j bytes (p ∷ ps))
ascending-step lo n j bytes p ps h low high none again (inl lt) = rw (lt-ltb j p.0 lt) (low, high, (lt, h.1, h.2))
ascending-step lo n j bytes p ps h low high none again (inr ge) =
    let apart : j ≡ p.0 → ⊥ = other j p.0 (has_part j ps) none in
    rw (le-ltb j p.0 ge) (h.0, h.1, again (omega (arith, ge, apart)))

pub ascending-insert : (lo n j : ℕ) (bytes : List ℕ) (ps : Parts) → Ascending lo n ps → lo ≤ j → j < n → has_part j ps ≡ false → Ascending lo n (insert_part j bytes ps)
ascending-insert lo n j bytes [] h low high none = (low, high, tt)
ascending-insert lo n j bytes (p ∷ ps) h low high none =
    ascending-step lo n j bytes p ps h low high none (λ up. ascending-insert (suc p.0) n j bytes ps h.2 up high (later-none j p.0 ps none)) (cases_lt j p.0)

looked-step : (j k : ℕ) (bytes : List ℕ) (p : ℕ × List ℕ) (ps : Parts) → (j ≡ p.0 → ⊥) → part_at k (insert_part j bytes ps) ≡ cond (k == j) (Some bytes) (part_at k ps)
    → (nat_lt j p.0 ≡ true) ⊎ (nat_lt j p.0 ≡ false) → ((k == j) ≡ true) ⊎ ((k == j) ≡ false) → ((k == p.0) ≡ true) ⊎ ((k == p.0) ≡ false)
    → part_at k (insert_part j bytes (p ∷ ps)) ≡ cond (k == j) (Some bytes) (part_at k (p ∷ ps))
looked-step j k bytes p ps apart more (inl lt) same at = rw lt refl
looked-step j k bytes p ps apart more (inr ge) (inl same) (inl at) = absurd (apart (sym (eqb-true k j same) ∙ eqb-true k p.0 at))
looked-step j k bytes p ps apart more (inr ge) (inl same) (inr at) = rw ge (rw (at, same) (more ∙ rw same refl))
looked-step j k bytes p ps apart more (inr ge) (inr same) (inl at) = rw ge (rw (at, same) refl)
looked-step j k bytes p ps apart more (inr ge) (inr same) (inr at) = rw ge (rw (at, same) (more ∙ rw same refl))

pub looked : (lo n j k : ℕ) (bytes : List ℕ) (ps : Parts) → has_part j ps ≡ false → part_at k (insert_part j bytes ps) ≡ cond (k == j) (Some bytes) (part_at k ps)
looked lo n j k bytes [] none = refl
looked lo n j k bytes (p ∷ ps) none =
    looked-step j k bytes p ps (other j p.0 (has_part j ps) none) (looked lo n j k bytes ps (later-none j p.0 ps none)) (cases_Bool (nat_lt j p.0)) (cases_Bool (k == j)) (cases_Bool (k == p.0))

-- strictly ascending indices from lo on, below n, are at most n - lo
pub ascending-few : (lo n : ℕ) (ps : Parts) → lo ≤ n → Ascending lo n ps → length ps + lo ≤ n
ascending-few lo n [] low h = omega (arith, low)
ascending-few lo n (p ∷ ps) low h =
    let more = ascending-few (suc p.0) n ps h.1 h.2 in
    let first = h.0 in
    omega (arith, more, first)

-- if all parts from lo on were received, they are in the list in order, as a look-up finds them
full-first : (lo count p n len : ℕ) → lo ≤ p → len + suc p ≤ n → suc len ≡ suc count → lo + suc count ≡ n → p ≡ lo
full-first lo count p n len low more size end = omega (arith, low, more, size, end)

passes : (k lo : ℕ) → suc lo ≤ k → (k == lo) ≡ false
passes k lo up = grind (arith, up)

pub full-parts : (look : ℕ → Option (List ℕ)) (lo count n : ℕ) (ps : Parts) → lo + count ≡ n → length ps ≡ count → Ascending lo n ps → ((k : ℕ) → lo ≤ k → look k ≡ part_at k ps)
    → map (λ (p : ℕ × List ℕ). p.1) ps ≡ map (λ k. unwrap_or (look k) []) (range lo count)
full-parts look lo zero n [] end size h same = refl
full-parts look lo (suc c) n [] end size h same = absurd (omega (arith, size))
full-parts look lo zero n (p ∷ ps) end size h same = absurd (omega (arith, size))
full-parts look lo (suc c) n (p ∷ ps) end size h same =
    let few : length ps + suc p.0 ≤ n = ascending-few (suc p.0) n ps h.1 h.2 in
    let first : p.0 ≡ lo = full-first lo c p.0 n (length ps) h.0 few size end in
    let here : look lo ≡ Some p.1 = same lo (omega arith) ∙ rw (eq-eqb lo p.0 (sym first)) refl in
    let later : (k : ℕ) → suc lo ≤ k → look k ≡ part_at k ps = λ k up. same k (omega (arith, up)) ∙ rw (first, passes k lo up) refl in
    let rest = full-parts look (suc lo) c n ps (omega (arith, end)) (omega (arith, size)) (rw (← first) h.2) later in
    rw (here, rest) refl

none-left : (lo n : ℕ) → lo ≤ n → (lo < n → false ≡ true) → (lo < n) ⊎ (n ≤ lo) → 0 + lo ≡ n
none-left lo n low first (inl lt) = absurd (false≢true (first lt))
none-left lo n low first (inr ge) = omega (arith, low, ge)

-- ascending indices from lo on: none is below lo
none-below : (lo n k : ℕ) (ps : Parts) → Ascending lo n ps → k < lo → has_part k ps ≡ false
none-below lo n k [] h low = refl
none-below lo n k (p ∷ ps) h low =
    let first = h.0 in
    let apart : (k == p.0) ≡ false = grind (arith, low, first) in
    rw apart (none-below (suc p.0) n k ps h.2 (omega (arith, low, first)))

has-later : (k : ℕ) (p : ℕ × List ℕ) (ps : Parts) → suc p.0 ≤ k → has_part k (p ∷ ps) ≡ true → has_part k ps ≡ true
has-later k p ps up is = let apart : (k == p.0) ≡ false = passes k p.0 up in sym (rw apart refl) ∙ is

all-first : (lo n : ℕ) (p : ℕ × List ℕ) (ps : Parts) → Ascending lo n (p ∷ ps) → has_part lo (p ∷ ps) ≡ true → ((lo == p.0) ≡ true) ⊎ ((lo == p.0) ≡ false) → lo ≡ p.0
all-first lo n p ps h is (inl same) = eqb-true lo p.0 same
all-first lo n p ps h is (inr apart) =
    let first = h.0 in
    let differ : lo ≡ p.0 → ⊥ = λ e. false≢true (sym apart ∙ eq-eqb lo p.0 e) in
    absurd (false≢true (sym (none-below (suc p.0) n lo ps h.2 (omega (arith, first))) ∙ (sym (rw apart refl) ∙ is)))

-- all parts from lo on are as many as the list has
pub all-counted : (lo n : ℕ) (ps : Parts) → lo ≤ n → Ascending lo n ps → ((k : ℕ) → lo ≤ k → k < n → has_part k ps ≡ true) → length ps + lo ≡ n
all-counted lo n [] low h all = none-left lo n low (λ lt. all lo (omega arith) lt) (cases_lt lo n)
all-counted lo n (p ∷ ps) low h all =
    let first : lo ≡ p.0 = all-first lo n p ps h (let a = h.0 in let b = h.1 in all lo (omega arith) (omega (arith, a, b))) (cases_Bool (lo == p.0)) in
    let rest = all-counted (suc p.0) n ps h.1 h.2 (λ k up high. has-later k p ps up (all k (let a = h.0 in omega (arith, up, a)) high)) in
    omega (arith, rest, first)

at-or-later : {bytes : List ℕ} (look : ℕ → Option (List ℕ)) (lo c n k : ℕ) → look lo ≡ Some bytes → (suc lo ≤ k → is_some (look k) ≡ true) → lo ≤ k → (lo < k) ⊎ (k ≤ lo) → is_some (look k) ≡ true
at-or-later look lo c n k here later low (inl up) = later up
at-or-later look lo c n k here later low (inr down) = let e : k ≡ lo = omega (arith, low, down) in rw (e, here) refl

pub full-there : (look : ℕ → Option (List ℕ)) (lo count n : ℕ) (ps : Parts) → lo + count ≡ n → length ps ≡ count → Ascending lo n ps → ((k : ℕ) → lo ≤ k → look k ≡ part_at k ps)
    → (k : ℕ) → lo ≤ k → k < n → is_some (look k) ≡ true
full-there look lo zero n [] end size h same k low high = absurd (omega (arith, end, low, high))
full-there look lo (suc c) n [] end size h same k low high = absurd (omega (arith, size))
full-there look lo zero n (p ∷ ps) end size h same k low high = absurd (omega (arith, size))
full-there look lo (suc c) n (p ∷ ps) end size h same k low high =
    let few : length ps + suc p.0 ≤ n = ascending-few (suc p.0) n ps h.1 h.2 in
    let first : p.0 ≡ lo = full-first lo c p.0 n (length ps) h.0 few size end in
    let later : (k : ℕ) → suc lo ≤ k → look k ≡ part_at k ps = λ k up. same k (omega (arith, up)) ∙ rw (first, passes k lo up) refl in
    at-or-later {bytes = p.1} look lo c n k (same lo (omega arith) ∙ rw (eq-eqb lo p.0 (sym first)) refl) (λ up. full-there look (suc lo) c n ps (omega (arith, end)) (omega (arith, size)) (rw (← first) h.2) later k up high) low (cases_lt lo k)
