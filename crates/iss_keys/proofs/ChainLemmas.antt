-- Facts about chains, digits and concatenated pieces.
use Rattle.std.proofs.Common.{◌≡◌, ℕ, zero, suc, ◌+◌, ◌-◌, ◌*◌, ◌/◌, ◌^◌, ◌≤◌, List, ◌++◌, sym, ◌∙◌, arith, add-one, append_assoc, subst}
use Rattle.std.proofs.lemmas.List.{append-nil}
use Rattle.sha2.specs.Hashers.{Holds256}
use Rattle.sha2.specs.declared.Sha256.{Sha256}
use Rattle.iss_keys.specs.Pieces.{join_below, sum_below}
use Rattle.iss_keys.specs.Chains.{chain_step, steps}
use Rattle.iss_keys.specs.Trees.{parent_of}
use Rattle.iss_keys.specs.Signatures.{climb, sibling_at}

-- one more step
pub steps_more : (q i j k : ℕ) (x : List ℕ) → j ≤ k →
    steps q i j (k + 1 - j) x ≡ chain_step q i k (steps q i j (k - j) x)
unfolding steps
steps_more q i j k x h =
    let n : k + 1 - j ≡ suc (k - j) = omega arith in
    let e : j + (k - j) ≡ k = omega arith in
    rw (n, e)

-- no steps
pub steps_none : (q i j : ℕ) (x : List ℕ) → steps q i j (j - j) x ≡ x
unfolding steps
steps_none q i j x = let n : j - j ≡ 0 = omega arith in rw n

-- one more piece
pub join_below_more : (f : ℕ → List ℕ) (n : ℕ) → join_below f (n + 1) ≡ join_below f n ++ f n
unfolding join_below
join_below_more f n = rw add-one

pub sum_below_more : (f : ℕ → ℕ) (n : ℕ) → sum_below f (n + 1) ≡ sum_below f n + f n
unfolding sum_below
sum_below_more f n = rw add-one

-- a sum of terms of at most b
pub sum_below-bound : (f : ℕ → ℕ) (b n : ℕ) → ((k : ℕ) → f k ≤ b) → sum_below f n ≤ b * n
unfolding sum_below
sum_below-bound f b zero h = omega arith
sum_below-bound f b (suc n) h =
    let here = h n in
    let below = sum_below-bound f b n h in
    omega arith

-- one more level of an authentication path
pub climb_more : (q : ℕ) (sig x : List ℕ) (k : ℕ) →
    climb q sig x (k + 1) ≡ parent_of (q / 2 ^ k) (climb q sig x k) (sibling_at sig k)
unfolding climb
climb_more q sig x k = rw add-one

-- the string hashed for a leaf, with one more chain end
pub ends_more : (m f : List ℕ) (e : ℕ → List ℕ) (n : ℕ) → f ≡ e n →
    (m ++ join_below e n) ++ f ≡ m ++ join_below e (n + 1)
ends_more m f e n h = rw (join_below_more e n, h) (append_assoc m (join_below e n) (e n))

pub join_below_none : (m n : List ℕ) (e : ℕ → List ℕ) → m ≡ n → m ≡ n ++ join_below e 0
unfolding join_below
join_below_none m n e h = h ∙ sym (append-nil n)

-- a hasher of an equal string
pub holds_along : (s : Sha256) (m n : List ℕ) → m ≡ n → Holds256 s m → Holds256 s n
holds_along s m n e h = subst (λ (x : List ℕ). Holds256 s x) e h

-- concatenation with no pieces, and with one more
pub pieces_none : (xs : List ℕ) (f : ℕ → List ℕ) → xs ≡ xs ++ join_below f 0
unfolding join_below
pieces_none xs f = sym (append-nil xs)

pub pieces_more : (xs ys zs : List ℕ) (f : ℕ → List ℕ) (n : ℕ) → ys ≡ xs ++ join_below f n → zs ≡ f n →
    ys ++ zs ≡ xs ++ join_below f (n + 1)
pieces_more xs ys zs f n h g = rw h (ends_more xs zs f n g)
