use Rattle.sb_hotstuff.proofs.Refinement.ProposalTestAgrees.{prepared}
use Rattle.sb_hotstuff.proofs.state.Node.may_prepare.Goals as goal

pub returns : goal.returns
returns c s h =
    prepared c.args.p.now c.args.self.now s h c.args.view c.args.what.now c.args.just.now c.args.from.0 c.is_timely.result c.is_founded.result c.is_fit.result c.is_safe.result
    (c.is_timely.ensures s h) c.if-not-is_timely.false (c.is_founded.ensures s h) c.if-not-is_founded.false (c.is_fit.ensures s h) c.if-not-is_fit.false (c.is_safe.ensures s c.args.view h)
