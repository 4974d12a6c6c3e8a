use Rattle.sb_raft.specs.Refines.{held}
use Rattle.sb_raft.proofs.CommitIndex.SearchFindsGreatest.{IsMostOf}
use Rattle.sb_raft.proofs.raft.Raft.held_by_quorum.Given as goal

abbrev pub invariant-loop-k : goal.invariant-loop-k
invariant-loop-k l = IsMostOf l.context.p.now l.self.me.0 (held l.self) l.k l.most
