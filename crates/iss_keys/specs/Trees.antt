-- The Merkle tree over the leaves of a secret. Node p of level k is a leaf at level 0, else the hash of the two nodes
-- below, behind the byte 0x13. In memory the root is at place 1, and the nodes under place i are at 2i and 2i + 1.
use Rattle.std.specs.Prelude.{◌≡◌, ℕ, zero, suc, ◌+◌, ◌-◌, ◌*◌, ◌/◌, ◌%◌, ◌^◌, ◌<◌, ◌≤◌, ◌==◌, List, [], ◌∷◌, ◌++◌, length, slice_index_or, if◌then◌else◌}
use Rattle.sha2.specs.Sha256.{sha256}
use Rattle.iss_keys.specs.Chains.{leaf_value}

-- the parent of two nodes
abbrev pub inner : List ℕ → List ℕ → List ℕ
inner left right = sha256 (0x13 ∷ left ++ right)

-- node p of level k, counted from the left; level 0 has the leaves
-- rule: Signatures: A hash tree over the leaves gives the root that is the public key
unfoldable pub node : List ℕ → ℕ → ℕ → List ℕ
node secret zero p = leaf_value secret p
node secret (suc k) p = inner (node secret k (2 * p)) (node secret k (2 * p + 1))

-- the root of the tree of height h
abbrev pub tree_root : List ℕ → ℕ → List ℕ
tree_root secret h = node secret h 0

-- the position of the sibling of p
abbrev pub beside : ℕ → ℕ
beside p = if p % 2 == 0 then p + 1 else p - 1

-- the sibling at level k of the node over leaf q
abbrev pub path_node : List ℕ → ℕ → ℕ → List ℕ
path_node secret q k = node secret k (beside (q / 2 ^ k))

-- the parent of x at position p and its sibling
abbrev pub parent_of : ℕ → List ℕ → List ℕ → List ℕ
parent_of p x sibling = if p % 2 == 0 then inner x sibling else inner sibling x

-- The tree of height h is laid out in an array, right from place i on. Node p of level k is at place 2 ^ (h - k) + p.
-- So the root is at place 1, and the children of place i are at 2 * i and 2 * i + 1.
abbrev pub HasNodesFrom : List ℕ → ℕ → ℕ → List (List ℕ) → Type 0
HasNodesFrom secret h i nodes = (k p : ℕ) → k ≤ h → p < 2 ^ (h - k) → i ≤ 2 ^ (h - k) + p
    → slice_index_or nodes (2 ^ (h - k) + p) [] ≡ node secret k p

-- these are all its nodes; no tree is higher than 12
pub record AreNodesOf (secret : List ℕ) (h : ℕ) (nodes : List (List ℕ)) : Type 0 where
  pub small : h ≤ 12
  pub size : length nodes ≡ 2 ^ (h + 1)
  pub tree : HasNodesFrom secret h 1 nodes

-- a tree, given by its secret and height
pub record KeyTree : Type 0 where
  pub secret : List ℕ
  pub height : ℕ
