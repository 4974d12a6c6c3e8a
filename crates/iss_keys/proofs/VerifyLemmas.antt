-- A signature made as defined verifies.
use Rattle.std.proofs.Common.{subst, pow-add, ◌≡◌, ℕ, zero, suc, ◌+◌, ◌-◌, ◌*◌, ◌/◌, ◌%◌, ◌^◌, ◌<◌, ◌≤◌, ◌==◌, true, false, List, [], ◌∷◌, ◌++◌, length, take, drop, get_or, refl, sym, ap, ap₂, ◌∙◌, arith, ◌⊎◌, inl, inr, length-append, append_assoc, length-drop}
use Rattle.std.specs.Prelude.{if◌then◌else◌, nat_lt}
use Rattle.std.specs.Int.{w32, to_be_bytes}
use Rattle.std.proofs.Math.Seq.{drop-append_seam, drop-append-add}
use Rattle.std.proofs.lemmas.List.{take-append-le, drop-append-le, take_all, append-nil}
use Rattle.std.proofs.lemmas.Bool.{cases_eq, cases_lt, le-ltb, lt-ltb}
use Rattle.std.proofs.Math.Nat.{pow-suc, div-div-eq-div-mul, div-eq_of_lt, div-lt_iff_lt-mul}
use Rattle.std.proofs.Math.Pow.{pow_mono}
use Rattle.iss_keys.proofs.ChainLemmas.{sum_below-bound}
use Rattle.std.proofs.lemmas.Nat.{from_be_bytes-to_be_bytes_4}
use Rattle.sha2.specs.Sha256.{sha256, digest_bytes}
use Rattle.sha2.proofs.Facts256.{length-sha256}
use Rattle.iss_base.specs.Heights.{IsHeight, digests_of_height, signature_length}
use Rattle.iss_base.proofs.HeightLemmas.{digests_of_one_tree, digests_of_two_levels}
use Rattle.iss_keys.specs.Pieces.{join_below}
use Rattle.iss_keys.specs.Chains.{chain_start, chain_step, steps, chain_end, leaf_value, nibble, checksum, digit, statement_digest}
use Rattle.iss_keys.specs.Trees.{KeyTree, node, tree_root, parent_of, beside, path_node}
use Rattle.iss_keys.specs.Levels.{bottom_secret, bottom_tree, by_top, root_in, root_of, root_statement, signings, top_tree}
use Rattle.iss_keys.specs.Signatures.{leaf_number, value_at, sibling_at, end_from, climb, part_root, bottom_root, top_root, root_of_parts, part_by, part_of, parts_of, Verifies, signed_value, signature_of}

-- ---- lengths

pub length-steps : (q i j n : ℕ) (x : List ℕ) → length x ≡ 32 → length (steps q i j n x) ≡ 32
unfolding steps
length-steps q i j zero x h = h
length-steps q i j (suc n) x h = length-sha256 _

pub length-node : (secret : List ℕ) (k p : ℕ) → length (node secret k p) ≡ 32
unfolding node
length-node secret zero p = length-sha256 _
length-node secret (suc k) p = length-sha256 _

pub length-join_below : (f : ℕ → List ℕ) (n : ℕ) → ((i : ℕ) → length (f i) ≡ 32) → length (join_below f n) ≡ 32 * n
unfolding join_below
length-join_below f zero h = refl
length-join_below f (suc n) h =
    let here = h n in
    let below = length-join_below f n h in
    simp length-append (omega arith)

-- ---- pieces of a concatenation

-- a part of a list is a part of each prefix that is long enough
part_of_front : (xs ys : List ℕ) (k n : ℕ) → k + n ≤ length xs → take n (drop k (xs ++ ys)) ≡ take n (drop k xs)
part_of_front xs ys k n h =
    let low : k ≤ length xs = omega arith in
    let room : n ≤ length (drop k xs) = simp length-drop (omega arith) in
    rw (drop-append-le k xs ys low, take-append-le n (drop k xs) ys room)

-- piece i of n
pub piece_of_join : (f : ℕ → List ℕ) (n i : ℕ) → ((i : ℕ) → length (f i) ≡ 32) → i < n
    → take 32 (drop (32 * i) (join_below f n)) ≡ f i
unfolding join_below
piece_of_join f zero i h lt = absurd (omega arith)
piece_of_join f (suc n) i h lt =
    let size = length-join_below f n h in
    elim (cases_lt i n) [
      | inl below ↦
          let room : 32 * i + 32 ≤ length (join_below f n) = omega arith in
          part_of_front (join_below f n) (f n) (32 * i) 32 room ∙ piece_of_join f n i h below
      | inr top ↦
          let same : i ≡ n = omega arith in
          let at : 32 * i ≡ length (join_below f n) = omega arith in
          let all : length (f n) ≤ 32 = omega (arith, h n) in
          rw (at, drop-append_seam (join_below f n) (f n), same) (take_all 32 (f n) all)
    ]

-- equal pieces have equal concatenations
pub join_below-same : (f g : ℕ → List ℕ) (n : ℕ) → ((i : ℕ) → i < n → f i ≡ g i) → join_below f n ≡ join_below g n
unfolding join_below
join_below-same f g zero h = refl
join_below-same f g (suc n) h =
    let here : n < suc n = omega arith in
    ap₂ (λ a b. a ++ b) (join_below-same f g n (λ i lt. let more : i < suc n = omega arith in h i more)) (h n here)

-- ---- chains

-- steps split in two
pub steps_joined : (q i d n : ℕ) (x : List ℕ) → steps q i d n (steps q i 0 d x) ≡ steps q i 0 (d + n) x
unfolding steps
steps_joined q i d zero x = let e : d + 0 ≡ d = omega arith in rw e
steps_joined q i d (suc n) x =
    let e : d + suc n ≡ suc (d + n) = omega arith in
    let z : 0 + (d + n) ≡ d + n = omega arith in
    rw (e, z) (ap (chain_step q i (d + n)) (steps_joined q i d n x))

-- ---- bytes

abbrev AreBytes : List ℕ → Type 0
AreBytes xs = (i : ℕ) → get_or xs i 0 < 256

bytes-append : (xs ys : List ℕ) → AreBytes xs → AreBytes ys → AreBytes (xs ++ ys)
bytes-append [] ys h g i = g i
bytes-append (x ∷ xs) ys h g zero = h zero
bytes-append (x ∷ xs) ys h g (suc i) = bytes-append xs ys (λ k. h (suc k)) g i

word_bytes : (n : ℕ) → AreBytes (to_be_bytes w32 n)
word_bytes n zero = omega arith
word_bytes n (suc zero) = omega arith
word_bytes n (suc (suc zero)) = omega arith
word_bytes n (suc (suc (suc zero))) = omega arith
word_bytes n (suc (suc (suc (suc i)))) = omega arith

digest_is_bytes : (h : List ℕ) (n : ℕ) → AreBytes (digest_bytes h n)
unfolding digest_bytes
digest_is_bytes h zero = λ i. omega arith
digest_is_bytes h (suc n) = bytes-append (digest_bytes h n) _ (digest_is_bytes h n) (word_bytes _)

pub sha256-bytes : (m : List ℕ) → AreBytes (sha256 m)
unfolding sha256
sha256-bytes m = digest_is_bytes _ 8

nibble_small : (m : List ℕ) (k : ℕ) → AreBytes m → nibble m k ≤ 15
nibble_small m k h = let b = h (k / 2) in
    elim (k % 2 == 0) as (λ v. (if v then get_or m (k / 2) 0 / 16 else get_or m (k / 2) 0 % 16) ≤ 15) [
      | true ↦
          omega arith
      | false ↦ omega arith
    ]

digit_small : (m : List ℕ) (i : ℕ) → AreBytes m → digit m i ≤ 15
unfolding digit
digit_small m i h =
    let sum : checksum m ≤ 15 * 64 = sum_below-bound (λ k. 15 - nibble m k) 15 64 (λ k. omega arith) in
    let here = nibble_small m i h in
    elim (nat_lt i 64) as (λ v. (if v then nibble m i
    else if i == 64 then checksum m / 256 else if i == 65 then checksum m / 16 % 16 else checksum m % 16) ≤ 15) [
      | true ↦ here
      | false ↦ elim (i == 64) as
          (λ v. (if v then checksum m / 256 else if i == 65 then checksum m / 16 % 16 else checksum m % 16) ≤ 15) [
            | true ↦ omega arith
            | false ↦ elim (i == 65) as (λ v. (if v then checksum m / 16 % 16 else checksum m % 16) ≤ 15) [
              | true ↦ omega arith
              | false ↦ omega arith
            ]
          ]
    ]

-- ---- the authentication path

halves : (p : ℕ) → ((p % 2 ≡ 0) × (p ≡ 2 * (p / 2))) ⊎ ((p % 2 ≡ 1) × (p ≡ 2 * (p / 2) + 1))
halves p = elim (cases_eq (p % 2) 0) [
  | inl even ↦ inl (even, omega arith)
  | inr odd ↦ let one : p % 2 ≡ 1 = omega arith in inr (one, omega arith)
]

pub climb_step : (secret : List ℕ) (k p : ℕ) →
    parent_of p (node secret k p) (node secret k (beside p)) ≡ node secret (suc k) (p / 2)
unfolding node
climb_step secret k p = elim (halves p) [
  | inl even ↦
      let left : 2 * (p / 2) ≡ p = omega (arith, even.1) in
      rw (even.0, left)
  | inr odd ↦
      let right : 2 * (p / 2) + 1 ≡ p = omega (arith, odd.1) in
      let left : p - 1 ≡ 2 * (p / 2) = omega (arith, odd.1) in
      rw (odd.0, right, left)
]

pub climb_is_node : (secret sig : List ℕ) (q h : ℕ) → ((k : ℕ) → k < h → sibling_at sig k ≡ path_node secret q k)
    → (k : ℕ) → k ≤ h → climb q sig (leaf_value secret q) k ≡ node secret k (q / 2 ^ k)
unfolding climb node
climb_is_node secret sig q h sib zero le = let e : q / 1 ≡ q = omega arith in rw e
climb_is_node secret sig q h sib (suc k) le =
    let lt : k < h = omega arith in
    let below : k ≤ h = omega arith in
    let half : q / 2 ^ suc k ≡ q / 2 ^ k / 2 = rw pow-suc (sym (div-div-eq-div-mul q (2 ^ k) 2)) in
    rw (climb_is_node secret sig q h sib k below, sib k lt, half) (climb_step secret k (q / 2 ^ k))

-- ---- the pieces of a part

-- piece i of a concatenation that is followed by more bytes
piece_in_front : (more : List ℕ) (f : ℕ → List ℕ) (n i : ℕ) → ((i : ℕ) → length (f i) ≡ 32) → i < n
    → take 32 (drop (32 * i) (join_below f n ++ more)) ≡ f i
piece_in_front more f n i each lt =
    let size = length-join_below f n each in
    let room : 32 * i + 32 ≤ length (join_below f n) = omega arith in
    part_of_front (join_below f n) more (32 * i) 32 room ∙ piece_of_join f n i each lt

-- piece i of a concatenation that follows b bytes and is followed by more
piece_behind : (front more : List ℕ) (f : ℕ → List ℕ) (b n i : ℕ) → length front ≡ b →
    ((i : ℕ) → length (f i) ≡ 32) → i < n
    → take 32 (drop (b + 32 * i) ((front ++ join_below f n) ++ more)) ≡ f i
piece_behind front more f b n i size each lt =
    rw (← size, append_assoc front (join_below f n) more, drop-append-add front (join_below f n ++ more) (32 * i))
    (piece_in_front more f n i each lt)

-- ---- the whole signature

-- the chain ends computed from a part are those of the leaf
ends_agree : (secret part m : List ℕ) (q : ℕ) → AreBytes m →
    ((i : ℕ) → i < 67 → value_at part i ≡ signed_value secret q m i)
    → (i : ℕ) → i < 67 → end_from q m part i ≡ chain_end secret q i
ends_agree secret part m q bytes values i lt =
    let small = digit_small m i bytes in
    let sum : digit m i + (15 - digit m i) ≡ 15 = omega arith in
    rw (values i lt, steps_joined q i (digit m i) (15 - digit m i) (chain_start secret q i), sum)

-- a part made as defined gives the root, whatever follows it
pub part_gives_root : (secret m rest : List ℕ) (h q : ℕ) → AreBytes m → q < 2 ^ h →
    part_root q m (part_of secret h q m ++ rest) h ≡ tree_root secret h
part_gives_root secret m rest h q bytes lt =
    let front = join_below (signed_value secret q m) 67 in
    let part = part_of secret h q m ++ rest in
    let each_value : (i : ℕ) → length (signed_value secret q m i) ≡ 32 =
    λ i. length-steps q i 0 (digit m i) (chain_start secret q i) (length-sha256 _) in
    let each_node : (k : ℕ) → length (path_node secret q k) ≡ 32 = λ k. length-node secret k _ in
    let front_size = length-join_below (signed_value secret q m) 67 each_value in
    let values : (i : ℕ) → i < 67 → value_at part i ≡ signed_value secret q m i =
    λ i l. ap (λ (x : List ℕ). value_at x i) (append_assoc front (join_below (path_node secret q) h) rest)
    ∙ piece_in_front (join_below (path_node secret q) h ++ rest) (signed_value secret q m) 67 i each_value l in
    let siblings : (k : ℕ) → k < h → sibling_at part k ≡ path_node secret q k =
    λ k l. piece_behind front rest (path_node secret q) 2144 h k front_size each_node l in
    let ends = join_below-same (end_from q m part) (chain_end secret q) 67 (ends_agree secret part m q bytes values) in
    let top : h ≤ h = omega arith in
    ap (λ x. climb q part (sha256 (0x12 ∷ to_be_bytes w32 q ++ x)) h) ends
    ∙ climb_is_node secret part q h siblings h top
    ∙ ap (node secret h) (div-eq_of_lt lt)

pub length-part_of : (secret m : List ℕ) (h q : ℕ) → length (part_of secret h q m) ≡ 2144 + 32 * h
length-part_of secret m h q =
    let front = length-join_below (signed_value secret q m) 67
    (λ i. length-steps q i 0 (digit m i) (chain_start secret q i) (length-sha256 _)) in
    let back = length-join_below (path_node secret q) h (λ k. length-node secret k _) in
    simp length-append (omega arith)

-- ---- the parts of a signature

pub top_of_one : (secret : List ℕ) (h : ℕ) → h ≤ 12 → top_tree secret h ≡ record { secret = secret; height = h }
unfolding top_tree
top_of_one secret h one = rw (le-ltb 12 h one) refl

pub top_height : (secret : List ℕ) (h : ℕ) → 12 < h → (top_tree secret h).height ≡ h - 10
unfolding top_tree
top_height secret h two = rw (lt-ltb 12 h two) refl

-- the part by the bottom tree of leaf q, and that by leaf b of the top tree
abbrev pub bottom_part : List ℕ → ℕ → List ℕ → List ℕ
bottom_part secret q s = part_of (bottom_secret secret (q / 1024)) 10 (q % 1024) (statement_digest s)

abbrev pub top_part : List ℕ → ℕ → ℕ → List ℕ
top_part secret h b = part_by secret h (by_top secret b)

one_part : (secret s : List ℕ) (h q : ℕ) → h ≤ 12 →
    parts_of secret h q s
    ≡ part_of (top_tree secret h).secret (top_tree secret h).height q (statement_digest s)
unfolding parts_of signings
one_part secret s h q one =
    rw (le-ltb 12 h one)
    (append-nil (part_of (top_tree secret h).secret (top_tree secret h).height q (statement_digest s)))

pub parts_of_one_tree : (secret s : List ℕ) (h q : ℕ) → h ≤ 12 →
    parts_of secret h q s ≡ part_of secret h q (statement_digest s)
parts_of_one_tree secret s h q one =
    one_part secret s h q one
    ∙ ap (λ (t : KeyTree). part_of t.secret t.height q (statement_digest s)) (top_of_one secret h one)

pub parts_of_two_levels : (secret s : List ℕ) (h q : ℕ) → 12 < h →
    parts_of secret h q s ≡ bottom_part secret q s ++ top_part secret h (q / 1024)
unfolding parts_of signings
parts_of_two_levels secret s h q two =
    rw (lt-ltb 12 h two) (ap (λ (x : List ℕ). bottom_part secret q s ++ x) (append-nil (top_part secret h (q / 1024))))

-- the same parts, appended one after the other
pub parts_appended : (secret s front : List ℕ) (h q : ℕ) → 12 < h →
    front ++ bottom_part secret q s ++ top_part secret h (q / 1024) ≡ front ++ parts_of secret h q s
parts_appended secret s front h q two =
    append_assoc front (bottom_part secret q s) (top_part secret h (q / 1024))
    ∙ ap (λ (x : List ℕ). front ++ x) (sym (parts_of_two_levels secret s h q two))

pub one_appended : (secret s front : List ℕ) (h q : ℕ) → h ≤ 12 →
    front ++ part_of (top_tree secret h).secret (top_tree secret h).height q (statement_digest s)
    ≡ front ++ parts_of secret h q s
one_appended secret s front h q one = ap (λ (x : List ℕ). front ++ x) (sym (one_part secret s h q one))

length-parts_of : (secret s : List ℕ) (h q : ℕ) → length (parts_of secret h q s) ≡ 32 * digests_of_height h
length-parts_of secret s h q = elim (cases_lt 12 h) [
  | inl two ↦
      let bottom = length-part_of (bottom_secret secret (q / 1024)) (statement_digest s) 10 (q % 1024) in
      let top : length (top_part secret h (q / 1024)) ≡ 2144 + 32 * (top_tree secret h).height =
      length-part_of (top_tree secret h).secret
      (statement_digest (by_top secret (q / 1024)).statement) (top_tree secret h).height (q / 1024) in
      let size : length (parts_of secret h q s) ≡ length (bottom_part secret q s) + length (top_part secret h (q / 1024)) =
      ap (λ (x : List ℕ). length x) (parts_of_two_levels secret s h q two)
      ∙ length-append (bottom_part secret q s) (top_part secret h (q / 1024)) in
      rw (digests_of_two_levels h two) (omega (arith, size, bottom, top, top_height secret h two))
  | inr one ↦
      let size = length-part_of secret (statement_digest s) h q in
      rw (parts_of_one_tree secret s h q one, digests_of_one_tree h one) (omega (arith, size))
]

pub length-signature_of : (secret : List ℕ) (h q : ℕ) (s : List ℕ) →
    length (signature_of secret h q s) ≡ signature_length h
length-signature_of secret h q s = let size = length-parts_of secret s h q in omega (arith, size)

-- the last leaf's number fits into four bytes
leaf_fits : (h q : ℕ) → IsHeight h → q < 2 ^ h → q < 2 ^ 32
leaf_fits h q high lt = let most : 2 ^ h ≤ 2 ^ 20 = pow_mono high.1 in omega arith

-- a signature has the number of its leaf
pub leaf_of_signature : (secret s : List ℕ) (h q : ℕ) → IsHeight h → q < 2 ^ h →
    leaf_number (signature_of secret h q s) ≡ q
leaf_of_signature secret s h q high lt = from_be_bytes-to_be_bytes_4 q (leaf_fits h q high lt)

-- a signature is a list of bytes
steps_bytes : (q i j n : ℕ) (x : List ℕ) → AreBytes x → AreBytes (steps q i j n x)
unfolding steps
steps_bytes q i j zero x h = h
steps_bytes q i j (suc n) x h = sha256-bytes _

node_bytes : (secret : List ℕ) (k p : ℕ) → AreBytes (node secret k p)
unfolding node
node_bytes secret zero p = sha256-bytes _
node_bytes secret (suc k) p = sha256-bytes _

join_bytes : (f : ℕ → List ℕ) (n : ℕ) → ((i : ℕ) → AreBytes (f i)) → AreBytes (join_below f n)
unfolding join_below
join_bytes f zero h = λ i. omega arith
join_bytes f (suc n) h = bytes-append (join_below f n) (f n) (join_bytes f n h) (h n)

part_bytes : (secret m : List ℕ) (h q : ℕ) → AreBytes (part_of secret h q m)
part_bytes secret m h q =
    let values = join_bytes (signed_value secret q m) 67
    (λ i. steps_bytes q i 0 (digit m i) (chain_start secret q i) (sha256-bytes _)) in
    let siblings = join_bytes (path_node secret q) h (λ k. node_bytes secret k _) in
    bytes-append _ _ values siblings

parts_bytes : (secret s : List ℕ) (h q : ℕ) → AreBytes (parts_of secret h q s)
parts_bytes secret s h q = elim (cases_lt 12 h) [
  | inl two ↦
      rw (parts_of_two_levels secret s h q two)
      (bytes-append (bottom_part secret q s) (top_part secret h (q / 1024))
      (part_bytes (bottom_secret secret (q / 1024)) (statement_digest s) 10 (q % 1024))
      (part_bytes (top_tree secret h).secret _ (top_tree secret h).height (q / 1024)))
  | inr one ↦ rw (parts_of_one_tree secret s h q one) (part_bytes secret (statement_digest s) h q)
]

head_bytes : (h q : ℕ) → IsHeight h → AreBytes (h ∷ to_be_bytes w32 q)
head_bytes h q high zero = omega (arith, high.1)
head_bytes h q high (suc i) = word_bytes q i

pub bytes_of_signature : (secret s : List ℕ) (h q : ℕ) → IsHeight h → AreBytes (signature_of secret h q s)
bytes_of_signature secret s h q high =
    bytes-append (h ∷ to_be_bytes w32 q) (parts_of secret h q s) (head_bytes h q high) (parts_bytes secret s h q)

-- ---- a signature made as defined verifies

-- the leaf's bottom tree and the leaf of the top tree
pub top_leaf : (h q : ℕ) → 12 < h → q < 2 ^ h → q / 1024 < 2 ^ (h - 10)
top_leaf h q two lt =
    let whole : 2 ^ (h - 10) * 1024 ≡ 2 ^ h = sym (pow-add 2 (h - 10) 10) ∙ ap (λ n. 2 ^ n) (omega (arith, two)) in
    let some : 0 < 1024 = omega arith in
    (div-lt_iff_lt-mul some).1 (rw whole lt)

root_of_one_tree : (secret s : List ℕ) (h q : ℕ) → h ≤ 12 → q < 2 ^ h →
    root_of_parts q s (parts_of secret h q s) h ≡ root_of secret h
unfolding root_of_parts
root_of_one_tree secret s h q one lt =
    let m = statement_digest s in
    rw (le-ltb 12 h one) (ap (λ (x : List ℕ). part_root q m x h)
    (parts_of_one_tree secret s h q one ∙ sym (append-nil (part_of secret h q m)))
    ∙ part_gives_root secret m [] h q (sha256-bytes _) lt
    ∙ sym (ap root_in (top_of_one secret h one)))

-- what follows the bottom part is the top part
behind_bottom : (secret s : List ℕ) (h q : ℕ) →
    drop 2464 (bottom_part secret q s ++ top_part secret h (q / 1024)) ≡ top_part secret h (q / 1024)
behind_bottom secret s h q =
    let size = length-part_of (bottom_secret secret (q / 1024)) (statement_digest s) 10 (q % 1024) in
    rw (← size) (drop-append_seam (bottom_part secret q s) (top_part secret h (q / 1024)))

root_of_two_trees : (secret s : List ℕ) (h q : ℕ) → 12 < h → q < 2 ^ h →
    top_root (q / 1024) (bottom_root q s (bottom_part secret q s ++ top_part secret h (q / 1024)))
    (bottom_part secret q s ++ top_part secret h (q / 1024)) (h - 10) ≡ root_of secret h
root_of_two_trees secret s h q two lt =
    let b = q / 1024 in
    let t = top_tree secret h in
    let m = statement_digest (root_statement b (root_in (bottom_tree secret b))) in
    let parts = bottom_part secret q s ++ top_part secret h b in
    let inside : q % 1024 < 2 ^ 10 = omega arith in
    let within : b < 2 ^ t.height = rw (top_height secret h two) (top_leaf h q two lt) in
    let below : bottom_root q s parts ≡ root_in (bottom_tree secret b) =
    part_gives_root (bottom_secret secret b) (statement_digest s) (top_part secret h b) 10 (q % 1024) (sha256-bytes _)
    inside in
    ap (λ (r : List ℕ). top_root b r parts (h - 10)) below
    ∙ ap (λ (x : List ℕ). part_root b m x (h - 10))
    (behind_bottom secret s h q ∙ sym (append-nil (top_part secret h b)))
    ∙ ap (λ n. part_root b m (top_part secret h b ++ []) n) (sym (top_height secret h two))
    ∙ part_gives_root t.secret m [] t.height b (sha256-bytes _) within

root_of_two_levels : (secret s : List ℕ) (h q : ℕ) → 12 < h → q < 2 ^ h →
    root_of_parts q s (parts_of secret h q s) h ≡ root_of secret h
unfolding root_of_parts
root_of_two_levels secret s h q two lt =
    rw (lt-ltb 12 h two, parts_of_two_levels secret s h q two) (root_of_two_trees secret s h q two lt)

root_of_made : (secret s : List ℕ) (h q : ℕ) → q < 2 ^ h → root_of_parts q s (parts_of secret h q s) h ≡ root_of secret h
root_of_made secret s h q lt = elim (cases_lt 12 h) [
  | inl two ↦ root_of_two_levels secret s h q two lt
  | inr one ↦ root_of_one_tree secret s h q one lt
]

pub signature_verifies : (secret s : List ℕ) (h q : ℕ) → IsHeight h → q < 2 ^ h →
    Verifies (root_of secret h) h s (signature_of secret h q s)
signature_verifies secret s h q high lt =
    let leaf : leaf_number (signature_of secret h q s) ≡ q = leaf_of_signature secret s h q high lt in
    record {
      exact = length-signature_of secret h q s;
      height = refl;
      leaf = rw leaf lt;
      root_is = ap (λ n. root_of_parts n s (parts_of secret h q s) h) leaf ∙ root_of_made secret s h q lt;
    }

pub made_verifies : (secret s sig : List ℕ) (h q : ℕ) → IsHeight h → q < 2 ^ h → sig ≡ signature_of secret h q s →
    Verifies (root_of secret h) h s sig
made_verifies secret s sig h q high lt e =
    subst (λ (x : List ℕ). Verifies (root_of secret h) h s x) (sym e) (signature_verifies secret s h q high lt)
