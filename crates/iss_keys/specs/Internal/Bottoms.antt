-- A bottom tree in memory, and the part of a signature by the leaf of the top tree that signs its root.
use Rattle.std.specs.Prelude.{◌≡◌, ℕ, List}
use Rattle.iss_keys.specs.Trees.{KeyTree}
use Rattle.iss_keys.specs.Levels.{bottom_tree, by_top}
use Rattle.iss_keys.specs.Signatures.{part_by}

-- the secret and height of its key, and its number
pub record BottomView : Type 0 where
  pub secret : List ℕ
  pub height : ℕ
  pub number : ℕ

pub record IsBottom (secret : List ℕ) (height number : ℕ) (tree : KeyTree) (above : List ℕ) : Type 0 where
  pub tree_is : tree ≡ bottom_tree secret number
  pub above_is : above ≡ part_by secret height (by_top secret number)
