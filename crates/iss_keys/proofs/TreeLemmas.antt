-- Facts about the tree of a key.
use Rattle.std.proofs.Common.{◌≡◌, ℕ, zero, suc, ◌+◌, ◌-◌, ◌*◌, ◌/◌, ◌%◌, ◌^◌, ◌<◌, ◌≤◌, List, [], length, get_or, refl, sym, ap, ap₂, ◌∙◌, arith, add-one, pow-add, inl, inr, get_or-set_same, get_or-set_other}
use Rattle.std.specs.Prelude.{Some, slice_set}
use Rattle.std.proofs.lemmas.Option.{slice_get-get_or, get_or_from_slice_get}
use Rattle.std.proofs.Math.Nat.{pow-succ', pow-suc, div-div-eq-div-mul, div-lt_iff_lt-mul, mul_assoc, mul-le-mul_right}
use Rattle.std.proofs.Math.Pow.{pow_mono}
use Rattle.std.proofs.lemmas.Nat.{pow_pos}
use Rattle.std.proofs.lemmas.Bool.{cases_eq}
use Rattle.iss_keys.specs.Chains.{leaf_value}
use Rattle.iss_keys.specs.Trees.{inner, node, beside, path_node, tree_root, HasNodesFrom}

-- a level has twice as many nodes as the one above
pow_down : (h k : ℕ) → suc k ≤ h → 2 ^ (h - k) ≡ 2 * 2 ^ (h - suc k)
pow_down h k le = let e : h - k ≡ suc (h - suc k) = omega arith in rw e (pow-succ' 2 (h - suc k))

pow_at_most : (h k : ℕ) → 2 ^ (h - k) ≤ 2 ^ h
pow_at_most h k = let le : h - k ≤ h = omega arith in pow_mono le

-- the leaves are in their places
pub leaves_are_nodes : (secret : List ℕ) (h n : ℕ) (nodes : List (List ℕ)) → n ≡ 2 ^ h
    → ((p : ℕ) → p < n → get_or nodes (n + p) [] ≡ leaf_value secret p) → HasNodesFrom secret h n nodes
unfolding node
leaves_are_nodes secret h n nodes e leaf zero p le lt at =
    let top : h - 0 ≡ h = omega arith in
    let here : p < n = omega (arith, rw top at lt) in
    rw (top, ← e) (leaf p here)
leaves_are_nodes secret h n nodes e leaf (suc k) p le lt at =
    let down = pow_down h k le in
    let most = pow_at_most h k in
    absurd (omega arith)

-- the node just computed is in its place
node_here : (secret : List ℕ) (h i : ℕ) (nodes : List (List ℕ)) (l r : List ℕ) → 1 ≤ i → i < 2 ^ h → i < length nodes
    → HasNodesFrom secret h (i + 1) nodes → l ≡ get_or nodes (2 * i) [] → r ≡ get_or nodes (2 * i + 1) []
    → (k p : ℕ) → k ≤ h → p < 2 ^ (h - k) → 2 ^ (h - k) + p ≡ i
    → get_or (slice_set nodes i (inner l r)) (2 ^ (h - k) + p) [] ≡ node secret k p
unfolding node
node_here secret h i nodes l r low high len tree left right zero p le lt same =
    let top : 2 ^ (h - 0) ≡ 2 ^ h = ap (λ n. 2 ^ n) (omega arith) in
    absurd (omega arith)
node_here secret h i nodes l r low high len tree left right (suc k) p le lt same =
    let down = pow_down h k le in
    let below : k ≤ h = omega arith in
    let lt0 : 2 * p < 2 ^ (h - k) = omega arith in
    let lt1 : 2 * p + 1 < 2 ^ (h - k) = omega arith in
    let at0 : i + 1 ≤ 2 ^ (h - k) + 2 * p = omega arith in
    let at1 : i + 1 ≤ 2 ^ (h - k) + (2 * p + 1) = omega arith in
    let e0 : 2 * i ≡ 2 ^ (h - k) + 2 * p = omega arith in
    let e1 : 2 * i + 1 ≡ 2 ^ (h - k) + (2 * p + 1) = omega arith in
    let is_left : l ≡ node secret k (2 * p) = left ∙ ap (λ j. get_or nodes j []) e0 ∙ tree k (2 * p) below lt0 at0 in
    let is_right : r ≡ node secret k (2 * p + 1) = right ∙ ap (λ j. get_or nodes j []) e1
    ∙ tree k (2 * p + 1) below lt1 at1 in
    rw (same, get_or-set_same) (ap₂ inner is_left is_right)

-- one more inner node is in its place
pub node_more : (secret : List ℕ) (h i : ℕ) (nodes : List (List ℕ)) (l r : List ℕ) → 1 ≤ i → i < 2 ^ h →
    i < length nodes
    → HasNodesFrom secret h (i + 1) nodes → l ≡ get_or nodes (2 * i) [] → r ≡ get_or nodes (2 * i + 1) []
    → HasNodesFrom secret h i (slice_set nodes i (inner l r))
unfolding node
node_more secret h i nodes l r low high len tree left right k p le lt at =
    elim (cases_eq (2 ^ (h - k) + p) i) [
      | inl same ↦ node_here secret h i nodes l r low high len tree left right k p le lt same
      | inr other ↦
          let above : i + 1 ≤ 2 ^ (h - k) + p = omega arith in
          rw get_or-set_other (tree k p le lt above)
    ]

-- what stands at a place of the array
pub node_at : (nodes : List (List ℕ)) (i : ℕ) (x : List ℕ) → i < length nodes → x ≡ get_or nodes i x →
    x ≡ get_or nodes i []
node_at nodes i x lt e =
    sym (get_or_from_slice_get nodes i x [] (slice_get-get_or nodes i x lt ∙ ap Some (sym e)))

-- ---- the authentication path of a leaf

below_level : (h k q : ℕ) → k ≤ h → q < 2 ^ h → q / 2 ^ k < 2 ^ (h - k)
below_level h k q le lt =
    let whole : 2 ^ (h - k) * 2 ^ k ≡ 2 ^ h = sym (pow-add 2 (h - k) k) ∙ ap (λ n. 2 ^ n) (omega arith) in
    (div-lt_iff_lt-mul (pow_pos k)).1 (rw whole lt)

-- the sibling of a node of the path
pub beside_path : (h k q place : ℕ) → k < h → q < 2 ^ h → place ≡ 2 ^ (h - k) + q / 2 ^ k
    → (beside place ≡ 2 ^ (h - k) + beside (q / 2 ^ k)) × (beside (q / 2 ^ k) < 2 ^ (h - k))
beside_path h k q place lt leaf e =
    let le : suc k ≤ h = lt in
    let down = pow_down h k le in
    let below = below_level h k q (omega arith) leaf in
    elim (cases_eq (q / 2 ^ k % 2) 0) [
      | inl even ↦
          let same : place % 2 ≡ 0 = omega arith in
          rw (same, even) (omega arith, omega arith)
      | inr odd ↦
          let one : q / 2 ^ k % 2 ≡ 1 = omega arith in
          let same : place % 2 ≡ 1 = omega arith in
          rw (same, one) (omega arith, omega arith)
    ]

-- the place of the parent
pub place_up : (h k q place : ℕ) → k < h → place ≡ 2 ^ (h - k) + q / 2 ^ k →
    place / 2 ≡ 2 ^ (h - (k + 1)) + q / 2 ^ (k + 1)
place_up h k q place lt e =
    let le : suc k ≤ h = lt in
    let down = pow_down h k le in
    let half : q / 2 ^ suc k ≡ q / 2 ^ k / 2 = rw pow-suc (sym (div-div-eq-div-mul q (2 ^ k) 2)) in
    rw (add-one, half) (omega arith)

pub beside_within : (h k q place : ℕ) → k < h → q < 2 ^ h → place ≡ 2 ^ (h - k) + q / 2 ^ k → beside place < 2 ^ (h + 1)
beside_within h k q place lt leaf e =
    let at = beside_path h k q place lt leaf e in
    let most = pow_at_most h k in
    let whole : 2 ^ (h + 1) ≡ 2 * 2 ^ h = rw add-one (pow-succ' 2 h) in
    omega (arith, at.0, at.1)

pub path_is : (secret : List ℕ) (h : ℕ) (nodes : List (List ℕ)) (q k place b : ℕ) → HasNodesFrom secret h 1 nodes →
    k < h → q < 2 ^ h
    → place ≡ 2 ^ (h - k) + q / 2 ^ k → b ≡ beside place → get_or nodes b [] ≡ path_node secret q k
path_is secret h nodes q k place b tree lt leaf e is =
    let at = beside_path h k q place lt leaf e in
    let below : k ≤ h = omega arith in
    let some = pow_pos (h - k) in
    rw (is, at.0) (tree k (beside (q / 2 ^ k)) below at.1 (omega arith))

pub has_root : (secret : List ℕ) (h : ℕ) (nodes : List (List ℕ)) → HasNodesFrom secret h 1 nodes →
    get_or nodes 1 [] ≡ tree_root secret h
has_root secret h nodes tree =
    let none : h - h ≡ 0 = omega arith in
    let top : h ≤ h = omega arith in
    let one : 2 ^ (h - h) + 0 ≡ 1 = rw none in
    let below : 0 < 2 ^ (h - h) = rw none (omega arith) in
    let at : 1 ≤ 2 ^ (h - h) + 0 = omega arith in
    rw one at (tree h 0 top below at)

pub has_a_root : (h n : ℕ) → n ≡ 2 ^ (h + 1) → 1 < n
has_a_root h n e =
    let some = pow_pos h in
    let whole : 2 ^ (h + 1) ≡ 2 * 2 ^ h = rw add-one (pow-succ' 2 h) in
    omega arith

-- ---- the nodes under a node

-- the leaves under the two children of a node are leaves under it
pub halves_within : (l p m : ℕ) → (l ≡ 0 → ⊥) → (p + 1) * 2 ^ l ≤ m
    → ((2 * p + 1) * 2 ^ (l - 1) ≤ m) × ((2 * p + 1 + 1) * 2 ^ (l - 1) ≤ m)
halves_within zero p m some h = absurd (some refl)
halves_within (suc k) p m some h =
    let e : suc k - 1 ≡ k = omega arith in
    let whole : (2 * p + 1 + 1) * 2 ^ k ≡ (p + 1) * 2 ^ suc k =
    ap (λ n. n * 2 ^ k) (let d : 2 * p + 1 + 1 ≡ (p + 1) * 2 = omega arith in d)
    ∙ mul_assoc (p + 1) 2 (2 ^ k) ∙ ap (λ n. (p + 1) * n) (sym (pow-succ' 2 k)) in
    let right : (2 * p + 1 + 1) * 2 ^ k ≤ m = rw whole h in
    let less : (2 * p + 1) * 2 ^ k ≤ (2 * p + 1 + 1) * 2 ^ k =
    mul-le-mul_right (2 ^ k) (let l : 2 * p + 1 ≤ 2 * p + 1 + 1 = omega arith in l) in
    rw e (omega (arith, less, right), right)
