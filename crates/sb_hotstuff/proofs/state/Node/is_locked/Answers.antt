use Rattle.sb_hotstuff.proofs.Refinement.ProposalTestAgrees.{locked}
use Rattle.sb_hotstuff.proofs.state.Node.is_locked.Goals as goal

pub returns : goal.returns
returns c s view h =
    locked c.args.p.now c.args.self.now s h view c.args.what.now c.args.just.now c.digest.result c.digest-2.result c.digest_of_node-node.result c.same.result c.digest.ensures c.digest-2.ensures
    c.digest_of_node-node.ensures c.same.ensures
