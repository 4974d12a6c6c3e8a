use Rattle.std.proofs.Common.{◌∙◌, length}
use Rattle.iss_keys.proofs.TreeLemmas.{has_a_root, has_root, node_at}
use Rattle.iss_keys.proofs.made.MadeTree.root.Goals as goal

pub index-requires : goal.index-requires
index-requires c =
    rw (c.self.inside.nodes.ok.0)
    (has_a_root c.self.inside.height.levels (length c.self.inside.nodes.items) c.self.invariant.size)

pub returns : goal.returns
returns c =
    rw (← c.self.view_is)
    (node_at c.self.inside.nodes.items 1 c.index.result.now
    (has_a_root c.self.inside.height.levels (length c.self.inside.nodes.items) c.self.invariant.size) c.index.ensures
    ∙ has_root c.self.inside.secret c.self.inside.height.levels c.self.inside.nodes.items c.self.invariant.tree)
