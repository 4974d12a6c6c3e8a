use Rattle.std.proofs.Common.{◌<◌, [], arith}
use Rattle.sb_raft.specs.Rules.{ask_vote}
use Rattle.sb_raft.specs.Refines.{held}
use Rattle.sb_raft.proofs.Refinement.SentMessagesAgree.{sent-next}
use Rattle.sb_raft.proofs.raft.Raft.ask_others.Goals as goal

pub loop-k-preserved : goal.loop-k-preserved
loop-k-preserved c =
    let lt = c.loop-k-test.true in
    let nodes = c.nodes-k-end.ensures in
    let below : c.loop-k.k < c.args.context.now.p.now.setup.n = omega (arith, lt, nodes) in (
      λ fits. sent-next (ask_vote (held c.args.self.now)) c.args.self.now.me.0 c.loop-k.k [] c.loop-k.sends c.ask.new.sends (c.loop-k.invariant.0 fits) (c.in_ok-ask.ensures.asks fits),
      c.in_ok-ask.ensures.addressed c.args.context.now.p.now.setup.n below c.loop-k.invariant.1,
    )
