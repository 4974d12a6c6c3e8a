use Rattle.std.proofs.Common.{◌≡◌, ◌≤◌}
use Rattle.iss_base.specs.Quorum.{count_below}
use Rattle.sb_raft.specs.Kept.{kept}
use Rattle.sb_raft.proofs.per_peer.count.Given as goal

abbrev pub invariant-loop-node : goal.invariant-loop-node
invariant-loop-node l = (l.count ≡ count_below (kept l.marks) l.node) × (l.count ≤ l.node)
