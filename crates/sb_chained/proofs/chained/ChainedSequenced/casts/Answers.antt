use Rattle.sb_chained.proofs.Refinement.StepEffectsAgree.{casts-means}
use Rattle.sb_chained.proofs.chained.ChainedSequenced.casts.Goals as goal

pub returns : goal.returns
returns c me xs batch st = casts-means c.args.p.now c.args.self.now me xs st c.args.slot batch c.may_cast.result (λ s h. c.may_cast.ensures.may s h)
