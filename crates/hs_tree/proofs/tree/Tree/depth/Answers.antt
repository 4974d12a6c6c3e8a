use Rattle.std.proofs.Common.{sym}
use Rattle.hs_tree.proofs.Branches.{depth-none, depth-some}
use Rattle.hs_tree.proofs.tree.Tree.depth.Goals as goal

pub returns-in-Some : goal.returns-in-Some
returns-in-Some c ks h = depth-some c.args.self.now.nodes.items c.args.place c.in-Some.node.now ks h (sym c.in-Some.ensures)

pub returns-in-None : goal.returns-in-None
returns-in-None c ks h = depth-none c.args.self.now.nodes.items c.args.place ks h (sym c.in-None.ensures)
