use Rattle.std.proofs.Common.{◌∙◌}
use Rattle.hs_tree.specs.Known.{path}
use Rattle.hs_tree.proofs.Branches.{from-place, values-there}
use Rattle.hs_tree.proofs.tree.Tree.behind.Goals as goal

pub returns : goal.returns
returns c ks h =
    let t = c.args.self.now in
    values-there t ks c.args.d.now h c.place.result c.place.ensures c.args.from c.of.result
    (c.of.ensures ∙ c.reverse.ensures.items ∙ c.in_ok-found.ensures (path ks c.args.d.now) (from-place t ks c.args.d.now h c.place.result c.place.ensures))
