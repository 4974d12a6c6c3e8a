-- A signature that is remembered: which key made it, with which leaf, of which statement.
use Rattle.std.specs.Prelude.{◌≡◌, ℕ, ◌^◌, ◌<◌, List}
use Rattle.iss_keys.specs.Trees.{KeyTree}
use Rattle.iss_keys.specs.Levels.{KeySeed, top_tree}
use Rattle.iss_keys.specs.Signatures.{signature_of}

-- the question for the signature of a statement by a leaf of the key with this secret and height
-- rule: Signatures: A remembered answer is found by all bytes of what was asked, never by a part
pub record Signed : Type 0 where
  pub secret : List ℕ
  pub height : ℕ
  pub leaf : ℕ
  pub statement : List ℕ

-- sig is what this leaf makes of this statement, and the key has this leaf
pub record IsMade (secret : List ℕ) (height leaf : ℕ) (statement sig : List ℕ) : Type 0 where
  pub within : leaf < 2 ^ height
  pub same : sig ≡ signature_of secret height leaf statement

-- the only or the top tree of a key, and the signatures that it made
pub record AreTrees (secret : List ℕ) (height : ℕ) (top : KeyTree) (made : KeySeed) : Type 0 where
  pub top_is : top ≡ top_tree secret height
  pub made_is : made ≡ record { secret = secret; height = height }
