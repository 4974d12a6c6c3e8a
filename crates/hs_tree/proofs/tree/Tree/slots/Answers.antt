use Rattle.hs_tree.specs.Known.{path}
use Rattle.hs_tree.proofs.Branches.{from-place, slots-there}
use Rattle.hs_tree.proofs.tree.Tree.slots.Goals as goal

pub returns : goal.returns
returns c ks h =
    slots-there c.args.self.now ks c.args.d.now h c.place.result c.place.ensures c.slots_from.result
    (c.slots_from.ensures (path ks c.args.d.now) (from-place c.args.self.now ks c.args.d.now h c.place.result c.place.ensures))
