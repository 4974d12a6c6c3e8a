use Rattle.sb_chained.proofs.Refinement.InputRefines.{node-taken}
use Rattle.sb_chained.proofs.state.Node.take_node.Goals as goal

pub returns : goal.returns
returns c s h =
    node-taken c.args.context.now.p.now c.args.self.now s h c.args.view c.view-from.result c.args.what c.args.just.now c.digest-parent.result c.in_ok-node.node c.add.new.self c.digest-parent.ensures c.view-from.ensures c.in_ok-node.ensures
    (λ k ks. c.in_ok-add.ensures k ks) c.in_ok-draft.draft c.in_ok-draft.ensures
