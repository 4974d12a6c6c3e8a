use Rattle.std.proofs.Common.{refl}
use Rattle.sb_pbft.proofs.Refinement.CallsRefine.{starts}
use Rattle.sb_pbft.proofs.pbft.PbftSequenced.start.Goals as goal

pub returns : goal.returns
returns c =
    starts _ _ refl refl c.new-proposals.ensures c.new-prepares.ensures c.new-commits.ensures
    c.new-changes.ensures c.new-tops.ensures c.new-delivered.ensures.empty
