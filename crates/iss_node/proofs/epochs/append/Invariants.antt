use Rattle.std.proofs.Common.{◌≡◌, ◌++◌}
use Rattle.iss_node.proofs.epochs.append.Given as goal

abbrev pub invariant-loop-thing : goal.invariant-loop-thing
invariant-loop-thing g l = l.row ≡ l.fn.row ++ l.yielded
