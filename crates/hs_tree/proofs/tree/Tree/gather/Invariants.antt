use Rattle.std.proofs.Common.{List}
use Rattle.hs_tree.specs.Known.{Leads}
use Rattle.hs_tree.specs.Tree.{Node}
use Rattle.hs_tree.proofs.Branches.{Gathers}
use Rattle.hs_tree.proofs.tree.Tree.gather.Given as goal

abbrev pub invariant-loop : goal.invariant-loop
invariant-loop l = (ks : List Node) → Leads l.self.nodes.items l.fn.place ks → Gathers l.self.nodes.items l.here l.counter l.from l.found.items ks
