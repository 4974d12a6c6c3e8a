-- The strings that the code hashes for nodes of the tree.
use Rattle.std.specs.Prelude.{◌≡◌, ℕ, List, [], ◌∷◌, ◌++◌, Option, Some, None}
use Rattle.iss_request.specs.Digest.{digest}
use Rattle.iss_sb.specs.Statements.{four_bytes}
use Rattle.iss_sb.specs.declared.content.Content.{Content}
use Rattle.hs_tree.specs.declared.signing.Hashed.{Hashed}
use Rattle.hs_tree.specs.Tree.{string_in, strings_of, value_of}

-- the start of a node's string: its number, in chained HotStuff with the view
abbrev pub start_of : Option ℕ → List ℕ
start_of None = 0x41 ∷ []
start_of (Some view) = 0x44 ∷ four_bytes view

-- the node's digest, and its strings: the value's, if it holds one, then its own
pub record IsHashed (version : ℕ) (view : Option ℕ) (parent : List ℕ) (what : Content) (h : Hashed) : Type 0 where
  pub strings : h.strings ≡ strings_of version (value_of what) ++ string_in version view parent what ∷ []
  pub digest_is : h.digest ≡ digest (string_in version view parent what)
