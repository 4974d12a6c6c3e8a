use Rattle.iss_node.specs.Internal.Cells.{AreFilled}
use Rattle.iss_node.proofs.growth.fill_all.Given as goal

abbrev pub invariant-loop-slot : goal.invariant-loop-slot
invariant-loop-slot l = AreFilled l.fn.log l.yielded l.log
