-- The trees of a key. Up to height 12 there is one, of that height. A taller key has two levels, so that none of its
-- trees is large: a top tree of height h - 10, and a bottom tree of height 10 under each leaf of the top tree. Leaf q
-- of the key is leaf q % 1024 of bottom tree q / 1024. Leaf b of the top tree signs the root of bottom tree b, and
-- nothing else. The first byte of each hashed string says what it is: 0x15 the secret of a bottom tree, 0x16 that of a
-- top tree, 0x17 what a leaf of a top tree signs.
use Rattle.std.specs.Prelude.{◌≡◌, ℕ, zero, suc, ◌-◌, ◌/◌, ◌%◌, List, [], ◌∷◌, ◌++◌, Some, slice_get, if◌then◌else◌}
use Rattle.std.specs.Int.{w32, to_be_bytes}
use Rattle.sha2.specs.Sha256.{sha256}
use Rattle.iss_base.specs.Heights.{has_two_levels}
use Rattle.iss_base.specs.Lists.{In}
use Rattle.iss_keys.specs.Trees.{KeyTree, tree_root}

-- a key's secret and height, from which all its trees follow
pub record KeySeed : Type 0 where
  pub secret : List ℕ
  pub height : ℕ

-- the secret of the top tree
abbrev pub top_secret : List ℕ → List ℕ
top_secret secret = sha256 (0x16 ∷ secret)

-- the secret of bottom tree b
abbrev pub bottom_secret : List ℕ → ℕ → List ℕ
bottom_secret secret b = sha256 (0x15 ∷ secret ++ to_be_bytes w32 b)

-- the tree whose root is public: the only one, or the top tree
-- rule: Signatures: A key above height 12 has a top tree, and a bottom tree of height 10 under each of its leaves
unfoldable pub top_tree : List ℕ → ℕ → KeyTree
top_tree secret h =
    if has_two_levels h then record { secret = top_secret secret; height = h - 10 }
    else record { secret = secret; height = h }

-- bottom tree b
abbrev pub bottom_tree : List ℕ → ℕ → KeyTree
bottom_tree secret b = record { secret = bottom_secret secret b; height = 10 }

-- the root of a tree, and that of a key
abbrev pub root_in : KeyTree → List ℕ
root_in t = tree_root t.secret t.height

abbrev pub root_of : List ℕ → ℕ → List ℕ
root_of secret h = root_in (top_tree secret h)

-- ---- what a leaf signs

-- what leaf b of a top tree signs: the root of bottom tree b
abbrev pub root_statement : ℕ → List ℕ → List ℕ
root_statement b root = 0x17 ∷ to_be_bytes w32 b ++ root

-- A leaf of one of a key's trees signs a statement. Tree 0 is the only one or the top tree, tree b + 1 is bottom tree
-- b.
pub record Signing : Type 0 where
  pub tree : ℕ
  pub leaf : ℕ
  pub statement : List ℕ

abbrev pub tree_of_key : List ℕ → ℕ → ℕ → KeyTree
tree_of_key secret h zero = top_tree secret h
tree_of_key secret h (suc b) = bottom_tree secret b

abbrev pub by_bottom : ℕ → List ℕ → Signing
by_bottom q s = record { tree = suc (q / 1024); leaf = q % 1024; statement = s }

abbrev pub by_top : List ℕ → ℕ → Signing
by_top secret b = record { tree = 0; leaf = b; statement = root_statement b (root_in (bottom_tree secret b)) }

-- what is signed, and by which leaves of the trees, where leaf q of a key signs s
-- rule: Signatures: Leaf b of a top tree signs the root of bottom tree b, and nothing else
unfoldable pub signings : List ℕ → ℕ → ℕ → List ℕ → List Signing
signings secret h q s =
    if has_two_levels h then by_bottom q s ∷ by_top secret (q / 1024) ∷ []
    else record { tree = 0; leaf = q; statement = s } ∷ []

-- If each leaf of a key signs its one statement in a row, no leaf of any of the key's trees signs two statements.
abbrev pub EachSignsOnce : List ℕ → ℕ → List (List ℕ) → Type 0
EachSignsOnce secret h row = (p q : ℕ) (s t : List ℕ) (x y : Signing) → slice_get row p ≡ Some s →
    slice_get row q ≡ Some t → In x (signings secret h p s) → In y (signings secret h q t) → x.tree ≡ y.tree →
    x.leaf ≡ y.leaf → x.statement ≡ y.statement
