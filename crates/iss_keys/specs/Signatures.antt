-- Signatures and their verification. A signature is true if its length fits, its height is the key's, and its leaf
-- number is below 2^height. Its chains and siblings must lead to the key's root. Numbers have their highest byte
-- first.
--
--   signature     height (1 byte), leaf (4), a part by the leaf's tree; with two levels then a part by the top tree
--   part          value 0, .., value 66, sibling 0, .., sibling (height of the tree - 1), 32 bytes each
use Rattle.std.specs.Prelude.{◌≡◌, ℕ, zero, suc, ◌+◌, ◌-◌, ◌*◌, ◌/◌, ◌%◌, ◌^◌, ◌<◌, List, ◌∷◌, ◌++◌, length, take, drop, slice_index, if◌then◌else◌}
use Rattle.std.specs.Int.{w32, to_be_bytes, from_be_bytes}
use Rattle.std.specs.List.{flat_map}
use Rattle.iss_base.specs.Heights.{has_two_levels, signature_length}
use Rattle.iss_keys.specs.Pieces.{join_below}
use Rattle.iss_keys.specs.Chains.{chain_start, steps, leaf_of_ends, digit, statement_digest}
use Rattle.iss_keys.specs.Trees.{path_node, parent_of}
use Rattle.iss_keys.specs.Levels.{Signing, root_statement, signings, tree_of_key}

-- ---- the root computed from a part

-- the value of chain i in a part
abbrev pub value_at : List ℕ → ℕ → List ℕ
value_at part i = take 32 (drop (32 * i) part)

-- the sibling at level k in it
abbrev pub sibling_at : List ℕ → ℕ → List ℕ
sibling_at part k = take 32 (drop (2144 + 32 * k) part)

-- the end of chain i of leaf q, after the steps that remain for a digest m
abbrev pub end_from : ℕ → List ℕ → List ℕ → ℕ → List ℕ
end_from q m part i = steps q i (digit m i) (15 - digit m i) (value_at part i)

-- the node at level k over leaf q with value x, computed from the siblings
unfoldable pub climb : ℕ → List ℕ → List ℕ → ℕ → List ℕ
climb q part x zero = x
climb q part x (suc k) = parent_of (q / 2 ^ k) (climb q part x k) (sibling_at part k)

-- the root computed from a signature's part, for a digest m signed with leaf q of a tree of height h
abbrev pub part_root : ℕ → List ℕ → List ℕ → ℕ → List ℕ
part_root q m part h = climb q part (leaf_of_ends q (end_from q m part)) h

-- ---- which bytes are a signature

-- the number of the leaf in the head of a signature
abbrev pub leaf_number : List ℕ → ℕ
leaf_number sig = from_be_bytes w32 (take 4 (drop 1 sig))

-- the root of bottom tree q / 1024, computed from the first part, for a signature of s with leaf q
abbrev pub bottom_root : ℕ → List ℕ → List ℕ → List ℕ
bottom_root q s parts = part_root (q % 1024) (statement_digest s) parts 10

-- the root of a top tree of height a, computed from what follows the first part, whose leaf b signs this bottom root
abbrev pub top_root : ℕ → List ℕ → List ℕ → ℕ → List ℕ
top_root b root parts a = part_root b (statement_digest (root_statement b root)) (drop 2464 parts) a

-- the root of a key of height h, computed from the parts of a signature of s with leaf q
unfoldable pub root_of_parts : ℕ → List ℕ → List ℕ → ℕ → List ℕ
root_of_parts q s parts h =
    if has_two_levels h then top_root (q / 1024) (bottom_root q s parts) parts (h - 10)
    else part_root q (statement_digest s) parts h

-- the root computed from a signature of s
abbrev pub root_from : List ℕ → List ℕ → ℕ → List ℕ
root_from s sig h = root_of_parts (leaf_number sig) s (drop 5 sig) h

-- sig is a signature of statement s under the public key with this root and height
-- rule: Signatures: A signature verifies if its chains and its path lead to the root of the key
pub record Verifies (root : List ℕ) (h : ℕ) (s sig : List ℕ) : Type 0 where
  pub exact : length sig ≡ signature_length h
  pub height : slice_index sig 0 ≡ h
  pub leaf : leaf_number sig < 2 ^ h
  pub root_is : root_from s sig h ≡ root

-- ---- the signature that a key makes

-- the value of chain i in the signature of a statement with digest m
abbrev pub signed_value : List ℕ → ℕ → List ℕ → ℕ → List ℕ
signed_value secret q m i = steps q i 0 (digit m i) (chain_start secret q i)

-- the part by leaf q of a tree, for a digest m
abbrev pub part_of : List ℕ → ℕ → ℕ → List ℕ → List ℕ
part_of secret h q m = join_below (signed_value secret q m) 67 ++ join_below (path_node secret q) h

-- the part by a leaf of one of a key's trees
abbrev pub part_by : List ℕ → ℕ → Signing → List ℕ
part_by secret h x =
    part_of (tree_of_key secret h x.tree).secret (tree_of_key secret h x.tree).height x.leaf
    (statement_digest x.statement)

-- the parts of the signature of s with leaf q of a key
unfoldable pub parts_of : List ℕ → ℕ → ℕ → List ℕ → List ℕ
parts_of secret h q s = flat_map (part_by secret h) (signings secret h q s)

-- the signature of statement s with leaf q
abbrev pub signature_of : List ℕ → ℕ → ℕ → List ℕ → List ℕ
signature_of secret h q s = h ∷ to_be_bytes w32 q ++ parts_of secret h q s
