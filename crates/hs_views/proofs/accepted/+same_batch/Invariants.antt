use Rattle.std.proofs.Common.{length}
use Rattle.hs_views.proofs.accepted.+same_batch.Given as goal

abbrev pub decreases-same_batch : goal.decreases-same_batch
decreases-same_batch l = length l.a.now
