use Rattle.std.proofs.Common.{length}
use Rattle.pbft_views.proofs.goodness.+are_voters.Given as goal

abbrev pub decreases-are_voters : goal.decreases-are_voters
decreases-are_voters l = length l.votes.now
