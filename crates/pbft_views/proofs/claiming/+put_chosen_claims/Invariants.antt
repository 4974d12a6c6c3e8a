use Rattle.std.proofs.Common.{length}
use Rattle.pbft_views.proofs.claiming.+put_chosen_claims.Given as goal

abbrev pub decreases-put_chosen_claims : goal.decreases-put_chosen_claims
decreases-put_chosen_claims l = length l.slots.now
