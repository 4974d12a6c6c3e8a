use Rattle.std.proofs.Common.{◌∙◌, sym, arith}
use Rattle.hs_tree.proofs.Branches.{looks-end, looks-next, looks-none, looks-start, looks-true}
use Rattle.hs_tree.proofs.tree.Tree.stands_on.Goals as goal

pub loop-init : goal.loop-init
loop-init c ks h = looks-start c.args.self.now.nodes.items c.args.place c.args.e.now ks h

pub returns-in_default : goal.returns-in_default
returns-in_default c ks h = looks-none c.args.self.now.nodes.items c.loop.here c.args.e.now ks c.loop.counter (c.loop.invariant ks h) (sym c.in_default.ensures)

pub returns-then-same : goal.returns-then-same
returns-then-same c ks h =
    looks-true c.args.self.now.nodes.items c.loop.here c.args.e.now ks c.loop.counter (c.loop.invariant ks h) c.in-Some.node.now (sym c.in-Some.ensures) (sym c.same.ensures ∙ c.if-same.true)

pub loop-preserved : goal.loop-preserved
loop-preserved c ks h =
    looks-next c.args.self.now.nodes.items c.loop.here c.args.e.now ks c.loop.counter (c.loop.invariant ks h) c.in-Some.node.now (sym c.in-Some.ensures) (sym c.same.ensures ∙ c.if-same.false)

pub returns : goal.returns
returns c ks h =
    let end = c.loop-test.false in
    let long = c.depth-end.ensures ks h in
    looks-end c.args.self.now.nodes.items c.loop.here c.args.e.now ks c.loop.counter (c.loop.invariant ks h) (omega (arith, end, long))
