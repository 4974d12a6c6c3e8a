use Rattle.sb_pbft.proofs.Refinement.CallsRefine.{casts-means}
use Rattle.sb_pbft.proofs.pbft.PbftSequenced.casts.Goals as goal

pub returns : goal.returns
returns c me xs batch st = casts-means c.args.p.now c.requires.good c.args.self.now me xs st c.args.slot batch _ c.may_cast.ensures
