use Rattle.sb_raft.proofs.Refinement.LogCountersAgree.{IsRun}
use Rattle.sb_raft.proofs.log.Log.same.Given as goal

abbrev pub invariant-loop-at : goal.invariant-loop-at
invariant-loop-at l = IsRun l.self.entries l.entries l.index l.at
