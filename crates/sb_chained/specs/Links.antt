-- How the code keeps the known nodes: the tree, and for each digest the views of the newest node that has it and of its
-- justification.
use Rattle.std.specs.Prelude.{◌≡◌, ℕ, nat_lt, List, Option, Some, None, if◌then◌else◌}
use Rattle.std.specs.BTreeMap.{get}
use Rattle.std.specs.Cmp.Lexicographic.{slice_cmp}
use Rattle.std.specs.Ordering.{nat_cmp}
use Rattle.hs_tree.specs.Known.{Keeps}
use Rattle.hs_tree.specs.Tree.{Node}
use Rattle.sb_chained.specs.declared.links.Link.{Link}
use Rattle.sb_chained.specs.declared.links.Lock.{Lock}
use Rattle.sb_chained.specs.declared.links.Nodes.{Nodes}
use Rattle.sb_chained.specs.Rules.{find}

-- a node without its content
abbrev pub link_of : Node → Link
link_of k = record { view = k.view; from = k.from; parent = k.parent }

abbrev pub linked : Option Node → Option Link
linked None = None
linked (Some k) = Some (link_of k)

-- the digest of the node, if there is one
abbrev pub digest_at : Option Node → Option (List ℕ)
digest_at None = None
digest_at (Some k) = Some k.digest

-- the link kept for a digest
abbrev pub link_at : Nodes → List ℕ → Option Link
link_at m d = get (slice_cmp nat_cmp) m.links d

-- the value represents the list of known nodes, newest first
pub record Holds (m : Nodes) (ks : List Node) : Type 0 where
  pub tree : Keeps m.tree ks
  pub links : (d : List ℕ) → link_at m d ≡ linked (find ks d)

-- the lock, or the justification of the link's node if it is higher
abbrev pub raised_by : Lock → Link → Lock
raised_by l x = if nat_lt l.view x.from then record { view = x.from; node = x.parent } else l
