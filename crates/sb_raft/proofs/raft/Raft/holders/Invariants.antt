use Rattle.std.proofs.Common.{◌≡◌, ◌≤◌}
use Rattle.iss_base.specs.Quorum.{count_below}
use Rattle.sb_raft.specs.Rules.{holds}
use Rattle.sb_raft.specs.Refines.{held}
use Rattle.sb_raft.proofs.raft.Raft.holders.Given as goal

abbrev pub invariant-loop-k : goal.invariant-loop-k
invariant-loop-k l = (l.count ≡ count_below (holds l.self.me.0 (held l.self) l.index) l.k) × (l.count ≤ l.k)
