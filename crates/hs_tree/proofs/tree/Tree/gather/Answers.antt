use Rattle.std.proofs.Common.{List, sym, subst, arith}
use Rattle.iss_request.specs.declared.requests.Value.{Value}
use Rattle.hs_tree.proofs.Branches.{Gathers, gathers-end, gathers-low, gathers-next, gathers-none, gathers-start}
use Rattle.hs_tree.proofs.tree.Tree.gather.Goals as goal

pub loop-init : goal.loop-init
loop-init c ks h =
    subst (λ (z : List Value). Gathers c.args.self.now.nodes.items c.args.place 0 c.args.from z ks) (sym c.new-found.ensures.items)
    (gathers-start c.args.self.now.nodes.items c.args.place c.args.from ks h)

pub returns-in_default : goal.returns-in_default
returns-in_default c ks h =
    gathers-none c.args.self.now.nodes.items c.loop.here c.args.from ks c.loop.counter c.loop.found.items (c.loop.invariant ks h) (sym c.in_default.ensures)

pub returns-then-node-from : goal.returns-then-node-from
returns-then-node-from c ks h =
    gathers-low c.args.self.now.nodes.items c.loop.here c.args.from ks c.loop.counter c.loop.found.items (c.loop.invariant ks h) c.in-Some.node.now (sym c.in-Some.ensures) c.if-node-from.true

pub loop-preserved : goal.loop-preserved
loop-preserved c ks h =
    gathers-next c.args.self.now.nodes.items c.loop.here c.args.from ks c.loop.counter c.loop.found.items (c.loop.invariant ks h) c.in-Some.node.now (sym c.in-Some.ensures) c.put_value.new.found.items
    c.if-node-from.false c.in_ok-put_value.ensures

pub returns : goal.returns
returns c ks h =
    let end = c.loop-test.false in
    let long = c.depth-end.ensures ks h in
    gathers-end c.args.self.now.nodes.items c.loop.here c.args.from ks c.loop.counter c.loop.found.items (c.loop.invariant ks h) (omega (arith, end, long))
