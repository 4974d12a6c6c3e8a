use Rattle.std.proofs.lemmas.Bool.{le-ltb}
use Rattle.sb_hotstuff.proofs.Refinement.ProposalTestAgrees.{safe-locked}
use Rattle.sb_hotstuff.proofs.state.Node.is_safe.Goals as goal

pub returns : goal.returns
returns c s view h =
    safe-locked c.args.p.now c.args.self.now s h view c.args.what.now c.args.just.now c.view.result c.view-2.result c.digest.result c.digest-2.result c.extends.result c.is_locked.result c.view.ensures c.view-2.ensures
    (le-ltb _ _ c.if-view.false) c.digest.ensures c.digest-2.ensures (c.extends.ensures s.tree h.tree) c.if-extends.false (c.is_locked.ensures s view h)
