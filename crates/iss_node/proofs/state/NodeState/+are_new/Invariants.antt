use Rattle.std.proofs.Common.{length}
use Rattle.iss_node.proofs.state.NodeState.+are_new.Given as goal

abbrev pub decreases-are_new : goal.decreases-are_new
decreases-are_new g l = length l.certs.now
