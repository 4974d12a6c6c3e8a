-- How the code keeps the tree: the known nodes in a row, each with the place of its parent, and for each digest the
-- place of the newest node that has it. From each digest upwards the places lead along the branch of the definitions.
-- A branch gives the values of the slots.
use Rattle.std.specs.Prelude.{◌≡◌, ◌≤◌, ℕ, suc, ◌+◌, ◌||◌, Bool, false, List, [], ◌∷◌, ◌++◌, length, slice_get, is_some, Option, Some, None, if◌then◌else◌}
use Rattle.std.specs.BTreeMap.{get}
use Rattle.std.specs.Cmp.Lexicographic.{slice_cmp}
use Rattle.std.specs.Ordering.{nat_cmp}
use Rattle.iss_base.specs.Lists.{same_bytes}
use Rattle.iss_request.specs.declared.requests.Value.{Value}
use Rattle.iss_sb.specs.Evidence.{one_or_none}
use Rattle.iss_sb.specs.declared.content.Content.{Content}
use Rattle.hs_tree.specs.declared.tree.Known.{Known}
use Rattle.hs_tree.specs.declared.tree.Tree.{Tree}
use Rattle.hs_tree.specs.Tree.{Node, filled, is_known, root, value_of, weight}

-- ---- Branches as lists of nodes

-- the nodes from the one with this digest up to the root
abbrev pub path : List Node → List ℕ → List Node
path [] d = []
path (k ∷ ks) d = if same_bytes k.digest d then k ∷ path ks k.parent else path ks d

-- their contents
abbrev pub whats : List Node → List Content
whats [] = []
whats (k ∷ ks) = k.what ∷ whats ks

-- the values of a branch, by ascending slot; a mark fills no slot
abbrev pub values : List Content → List Value
values [] = []
values (c ∷ cs) = values cs ++ one_or_none (value_of c)

-- whether the parent of one of the nodes has this digest
abbrev pub meets : List ℕ → List Node → Bool
meets e [] = false
meets e (k ∷ ks) = same_bytes k.parent e || meets e ks

-- ---- The code's vector of nodes

-- the index of the newest node with this digest
abbrev pub place : Tree → List ℕ → Option ℕ
place t d = get (slice_cmp nat_cmp) t.places d

-- the node at the index, if there is one
abbrev pub known_at : List Known → Option ℕ → Option Known
known_at nodes None = None
known_at nodes (Some i) = slice_get nodes i

-- n represents node k, whose parent's branch is ks
pub record IsKept (n : Known) (k : Node) (ks : List Node) : Type 0 where
  pub parent : n.parent ≡ k.parent
  pub what : n.what ≡ k.what
  pub depth : n.depth ≡ suc (length ks)
  pub slots : n.slots ≡ weight k.what + filled (whats ks)

-- from this index on, the parents are these nodes
abbrev pub Leads : List Known → Option ℕ → List Node → Type 0
Leads nodes o [] = o ≡ None
Leads nodes o (k ∷ ks) = (n : Known) × (known_at nodes o ≡ Some n) × IsKept n k ks × Leads nodes n.above ks

-- the tree represents the list of known nodes, newest first
-- rule: HotStuff: A branch is what its nodes hold, even where a digest repeats
pub record Keeps (t : Tree) (ks : List Node) : Type 0 where
  pub leads : (d : List ℕ) → Leads t.nodes.items (place t d) (path ks d)
  pub known : (d : List ℕ) → is_known ks d ≡ (is_some (place t d) || same_bytes d root)
  pub few : (d : List ℕ) → length (path ks d) ≤ length t.nodes.items
