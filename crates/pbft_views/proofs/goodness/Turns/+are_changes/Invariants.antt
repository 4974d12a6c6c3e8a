use Rattle.std.proofs.Common.{length}
use Rattle.pbft_views.proofs.goodness.Turns.+are_changes.Given as goal

abbrev pub decreases-are_changes : goal.decreases-are_changes
decreases-are_changes l = length l.changes.now
