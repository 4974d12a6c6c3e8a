-- Branches of the tree as paths, whichever replica knows them. A path is made of nodes whose strings are among given
-- hashed ones, so two replicas can speak of the same branch. A node's string has its view.
use Rattle.std.specs.Prelude.{◌≡◌, ℕ, true, List, [], ◌∷◌, length, Some}
use Rattle.iss_request.specs.Digest.{digest}
use Rattle.iss_request.specs.Fields.{IsReadAgain}
use Rattle.iss_request.specs.Formats.{value_string}
use Rattle.iss_request.specs.declared.requests.Value.{Value}
use Rattle.iss_sb.specs.declared.content.Content.{Content}
use Rattle.iss_sb.specs.Content.{parse_content, spell_content}
use Rattle.hs_tree.specs.Tree.{Node, chained as form, is_known, value_of}

-- the digest of the node with this view, parent and content
abbrev pub hash : ℕ → ℕ → List ℕ → Content → List ℕ
hash version view parent what = digest (form.string version view parent what)

-- this node was hashed: its strings are among the given ones
pub record Has (version : ℕ) (Is : List ℕ → Type 0) (view : ℕ) (parent : List ℕ) (what : Content) : Type 0 where
  pub long : length parent ≡ 32
  pub read : IsReadAgain (spell_content version) (parse_content version) what
  pub node : Is (form.string version view parent what)
  pub value : (v : Value) → value_of what ≡ Some v → Is (value_string version v)

-- node d was hashed with this view, parent and content
pub record IsNode (version : ℕ) (Is : List ℕ → Type 0) (d : List ℕ) (view : ℕ) (parent : List ℕ)
    (what : Content) : Type 0 where
  pub has : Has version Is view parent what
  pub is : hash version view parent what ≡ d

-- a branch from node d down to its ancestor e, whose contents are these, newest first
abbrev pub Path : ℕ → (List ℕ → Type 0) → List ℕ → List ℕ → List Content → Type 0
Path version Is d e [] = d ≡ e
Path version Is d e (c ∷ cs) = (v : ℕ) × (a : List ℕ) × IsNode version Is d v a c × Path version Is a e cs

-- known nodes, newest first: each was hashed, and its parent is known before it
abbrev pub IsTree : ℕ → (List ℕ → Type 0) → List Node → Type 0
IsTree version Is [] = Unit {0}
IsTree version Is (k ∷ ks) =
    IsNode version Is k.digest k.view k.parent k.what × (is_known ks k.parent ≡ true) × IsTree version Is ks
