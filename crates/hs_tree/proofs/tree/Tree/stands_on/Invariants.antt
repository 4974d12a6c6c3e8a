use Rattle.std.proofs.Common.{List}
use Rattle.hs_tree.specs.Known.{Leads}
use Rattle.hs_tree.specs.Tree.{Node}
use Rattle.hs_tree.proofs.Branches.{Looks}
use Rattle.hs_tree.proofs.tree.Tree.stands_on.Given as goal

abbrev pub invariant-loop : goal.invariant-loop
invariant-loop l = (ks : List Node) → Leads l.self.nodes.items l.fn.place ks → Looks l.self.nodes.items l.here l.counter l.e ks
