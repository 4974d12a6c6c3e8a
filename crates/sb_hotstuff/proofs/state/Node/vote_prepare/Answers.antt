use Rattle.sb_hotstuff.proofs.Refinement.InputRefines.{node-taken}
use Rattle.sb_hotstuff.proofs.state.Node.vote_prepare.Goals as goal

pub returns : goal.returns
returns c s from sig h may =
    node-taken c.args.context.now.p.now c.args.self.now s h from c.args.view c.args.what c.args.just.now sig c.digest-parent.result c.in_ok-node.node c.add.new.self c.in_ok-draft.draft may c.digest-parent.ensures
    c.in_ok-node.ensures c.in_ok-add.ensures c.in_ok-draft.ensures
