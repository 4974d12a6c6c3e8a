use Rattle.std.proofs.Common.{◌∙◌, sym, refl}
use Rattle.hs_tree.specs.Known.{path, place}
use Rattle.hs_tree.proofs.Branches.{extends-other, extends-same, from-place}
use Rattle.hs_tree.proofs.tree.Tree.extends.Goals as goal

pub returns-then-same : goal.returns-then-same
returns-then-same c ks h =
    let t = c.args.self.now in
    extends-same t ks c.args.d.now h (place t c.args.d.now) refl c.args.e.now c.same.result (sym c.same.ensures ∙ c.if-same.true) c.if-same.true

pub returns-else-same : goal.returns-else-same
returns-else-same c ks h =
    let t = c.args.self.now in
    extends-other t ks c.args.d.now h c.place.result c.place.ensures c.args.e.now c.stands_on.result (sym c.same.ensures ∙ c.if-same.false)
    (c.stands_on.ensures (path ks c.args.d.now) (from-place t ks c.args.d.now h c.place.result c.place.ensures))
