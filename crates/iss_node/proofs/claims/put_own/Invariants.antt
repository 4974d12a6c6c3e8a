use Rattle.std.proofs.Common.{◌≡◌, ◌++◌}
use Rattle.iss_model.specs.Node.{only_by}
use Rattle.iss_node.proofs.claims.put_own.Given as goal

abbrev pub invariant-loop-claim : goal.invariant-loop-claim
invariant-loop-claim l = l.own ≡ l.fn.own ++ only_by l.me.0 l.yielded
