use Rattle.std.proofs.Common.{length}
use Rattle.pbft_views.proofs.claiming.+put_vote_claims.Given as goal

abbrev pub decreases-put_vote_claims : goal.decreases-put_vote_claims
decreases-put_vote_claims l = length l.votes.now
