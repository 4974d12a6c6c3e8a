use Rattle.std.proofs.Common.{◌<◌, arith}
use Rattle.sb_raft.specs.Rules.{append_to}
use Rattle.sb_raft.specs.Refines.{held}
use Rattle.sb_raft.proofs.Refinement.SentMessagesAgree.{sent-next}
use Rattle.sb_raft.proofs.raft.Raft.append_to_others.Goals as goal

pub loop-k-preserved : goal.loop-k-preserved
loop-k-preserved c =
    let lt = c.loop-k-test.true in
    let nodes = c.nodes-k-end.ensures in
    let below : c.loop-k.k < c.args.context.now.p.now.setup.n = omega (arith, lt, nodes) in (
      λ fits. sent-next (append_to (held c.args.self.now)) c.args.self.now.me.0 c.loop-k.k c.args.sends.now c.loop-k.sends c.append_to.new.sends (c.loop-k.invariant.0 fits) (c.in_ok-append_to.ensures.appends fits),
      λ a. c.in_ok-append_to.ensures.addressed c.args.context.now.p.now.setup.n below (c.loop-k.invariant.1 a),
    )
