use Rattle.sb_raft.proofs.Refinement.LogCountersAgree.{nils-pushed}
use Rattle.sb_raft.proofs.log.Log.push_nils.Goals as goal

pub loop-preserved : goal.loop-preserved
loop-preserved c = nils-pushed c.args.self.now c.loop.self c.push.new.self c.args.term c.loop.counter c.loop.invariant c.in_ok-push.ensures.log
