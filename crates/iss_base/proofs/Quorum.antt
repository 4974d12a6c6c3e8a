-- Quorums intersect. Proved by counting the numbers below n that pass a test.
use Rattle.std.proofs.Common.{◌≡◌, ℕ, zero, suc, ◌+◌, ◌*◌, ◌<◌, ◌≤◌, Bool, true, false, ◌&&◌, ◌||◌, not, cond, List, [], ◌∷◌, length, arith, refl, inl, inr, ◌⊎◌}
use Rattle.std.specs.Prelude.{◌==◌, nat_lt}
use Rattle.std.proofs.lemmas.Bool.{cases_Bool, eqb-true, eqb-false, ltb-true, and_parts, not-true}
use Rattle.std.proofs.lemmas.Bool.Decides.{nat_tests}
use Rattle.iss_base.specs.Quorum.{all_below, count_below, distinct, mem}

-- one step of the count
both_step : (a b : Bool) (x y n z : ℕ) → x + y ≤ n + z →
    (cond a 1 0 + x) + (cond b 1 0 + y) ≤ suc n + (cond (a && b) 1 0 + z)
both_step a b x y n z h = grind arith

pub count-both : (p q : ℕ → Bool) (n : ℕ) → count_below p n + count_below q n ≤ n + count_below (λ k. p k && q k) n
count-both p q zero = omega arith
count-both p q (suc n) = both_step (p n) (q n) _ _ _ _ (count-both p q n)

less_step : (a b : Bool) (x y z : ℕ) → x ≤ y + z → cond a 1 0 + x ≤ (cond (a && not b) 1 0 + y) + (cond b 1 0 + z)
less_step a b x y z h = grind arith

pub count-less : (p r : ℕ → Bool) (n : ℕ) → count_below p n ≤ count_below (λ k. p k && not (r k)) n + count_below r n
count-less p r zero = omega arith
count-less p r (suc n) = less_step (p n) (r n) _ _ _ (count-less p r n)

some_step : (p : ℕ → Bool) (n x : ℕ) → 0 < cond (p n) 1 0 + x → (p n ≡ true) ⊎ (0 < x)
some_step p n x h = grind arith

pub count-some : (p : ℕ → Bool) (n : ℕ) → 0 < count_below p n → (k : ℕ) × (k < n) × (p k ≡ true)
count-some p zero h = absurd (omega arith)
count-some p (suc n) h = elim (some_step p n (count_below p n) h) [
  | inl e ↦ (n, omega arith, e)
  | inr g ↦
      let r = count-some p n g in (r.0, omega arith, r.2)
]

mono_step : (a b : Bool) (x y : ℕ) → (a ≡ true → b ≡ true) → x ≤ y → cond a 1 0 + x ≤ cond b 1 0 + y
mono_step a b x y h l = grind arith

pub count-mono : (p q : ℕ → Bool) (n : ℕ) → ((k : ℕ) → k < n → p k ≡ true → q k ≡ true) →
    count_below p n ≤ count_below q n
count-mono p q zero h = omega arith
count-mono p q (suc n) h =
    mono_step (p n) (q n) _ _ (h n (omega arith)) (count-mono p q n (λ k l e. h k (omega arith) e))

pub or_right_true : (a b : Bool) → b ≡ true → (a || b) ≡ true
or_right_true a b e = grind arith

more_same : (p : ℕ → Bool) (n x c d : ℕ) → n ≡ x → p x ≡ false → c ≤ d →
    suc (cond (p n) 1 0 + c) ≤ cond ((n == x) || p n) 1 0 + d
more_same p n x c d e h l = grind (arith, nat_tests)

more_other : (a b : Bool) (c d : ℕ) → suc c ≤ d → suc (cond b 1 0 + c) ≤ cond (a || b) 1 0 + d
more_other a b c d l = grind arith

pub count-more : (p : ℕ → Bool) (x n : ℕ) → x < n → p x ≡ false →
    suc (count_below p n) ≤ count_below (λ k. (k == x) || p k) n
count-more p x zero l e = absurd (omega arith)
count-more p x (suc n) l e = elim (cases_Bool (n == x)) [
  | inl s ↦ more_same p n x (count_below p n) (count_below (λ k. (k == x) || p k) n) (eqb-true n x s) e
      (count-mono p (λ k. (k == x) || p k) n (λ k _ g. or_right_true (k == x) (p k) g))
  | inr s ↦ let ne = eqb-false n x s in more_other (n == x) (p n) _ _ (count-more p x n (omega arith) e)
]

member_step : (x n : ℕ) (xs : List ℕ) → (nat_lt x n && all_below n xs) ≡ true → (not (mem x xs) && distinct xs) ≡ true →
    (x < n) × (all_below n xs ≡ true) × (mem x xs ≡ false) × (distinct xs ≡ true)
member_step x n xs h g = let a = and_parts (nat_lt x n) (all_below n xs) h in
    let b = and_parts (not (mem x xs)) (distinct xs) g in (ltb-true x n a.0, a.1, not-true (mem x xs) b.0, b.1)

-- A list of distinct numbers below n is as long as the count of its members below n.
pub count-distinct : (n : ℕ) (xs : List ℕ) → all_below n xs ≡ true → distinct xs ≡ true →
    length xs ≤ count_below (λ k. mem k xs) n
count-distinct n [] h g = omega arith
count-distinct n (x ∷ xs) h g =
    let s = member_step x n xs h g in
    let r = count-distinct n xs s.1 s.3 in
    let m = count-more (λ k. mem k xs) x n s.0 s.2 in
    omega arith

or_cases_eq : (k x : ℕ) (b : Bool) → k < x → ((k == x) || b) ≡ true → b ≡ true
or_cases_eq k x b l e = grind (arith, nat_tests)

one_same : (b : Bool) (c d : ℕ) → d ≤ c → cond (true || b) 1 0 + d ≤ suc (cond b 1 0 + c)
one_same b c d l = grind arith

one_step : (p : ℕ → Bool) (n x c d : ℕ) → (n ≡ x → d ≤ c) → d ≤ suc c →
    cond ((n == x) || p n) 1 0 + d ≤ suc (cond (p n) 1 0 + c)
one_step p n x c d h l = grind (arith, nat_tests)

pub count-one : (p : ℕ → Bool) (x n : ℕ) → count_below (λ k. (k == x) || p k) n ≤ suc (count_below p n)
count-one p x zero = omega arith
count-one p x (suc n) = one_step p n x (count_below p n) (count_below (λ k. (k == x) || p k) n)
    (λ e. count-mono (λ k. (k == x) || p k) p n (λ k l g. or_cases_eq k x (p k) (omega arith) g)) (count-one p x n)

pub count-none : (n : ℕ) → count_below (λ k. false) n ≡ 0
count-none zero = refl
count-none (suc n) = let h = count-none n in omega arith

pub count-length : (n : ℕ) (xs : List ℕ) → count_below (λ k. mem k xs) n ≤ length xs
count-length n [] = let h = count-none n in omega arith
count-length n (x ∷ xs) = let h = count-one (λ k. mem k xs) x n in let r = count-length n xs in omega arith

three : (a b c : Bool) → ((a && b) && not c) ≡ true → (a ≡ true) × (b ≡ true) × (c ≡ false)
three a b c h = grind arith

-- If more than f numbers below n pass both tests, one of them is not among the f faulty ones.
pub counts-meet : (n f q : ℕ) (t u bad : ℕ → Bool) → n + f < q + q → count_below bad n ≤ f → q ≤ count_below t n →
    q ≤ count_below u n →
    (k : ℕ) × (k < n) × (t k ≡ true) × (u k ≡ true) × (bad k ≡ false)
counts-meet n f q t u bad wide few tq uq =
    let both = count-both t u n in
    let less = count-less (λ k. t k && u k) bad n in
    let r = count-some (λ k. (t k && u k) && not (bad k)) n (omega arith) in
    let z = three (t r.0) (u r.0) (bad r.0) r.2 in
    (r.0, r.1, z.0, z.1, z.2)

-- two quorums share a correct node
pub meet : (f : ℕ) (xs ys faulty : List ℕ) → length faulty ≤ f → distinct xs ≡ true → distinct ys ≡ true →
    all_below (3 * f + 1) xs ≡ true → all_below (3 * f + 1) ys ≡ true → 2 * f + 1 ≤ length xs → 2 * f + 1 ≤ length ys →
    (k : ℕ) × (k < 3 * f + 1) × (mem k xs ≡ true) × (mem k ys ≡ true) × (mem k faulty ≡ false)
meet f xs ys faulty hf dx dy bx by lx ly =
    let n : ℕ = 3 * f + 1 in
    let cx = count-distinct n xs bx dx in
    let cy = count-distinct n ys by dy in
    let bad = count-length n faulty in
    counts-meet n f (2 * f + 1) (λ k. mem k xs) (λ k. mem k ys) (λ k. mem k faulty) (omega arith) (omega arith)
    (omega arith) (omega arith)
