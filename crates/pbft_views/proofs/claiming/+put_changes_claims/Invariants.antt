use Rattle.std.proofs.Common.{length}
use Rattle.pbft_views.proofs.claiming.+put_changes_claims.Given as goal

abbrev pub decreases-put_changes_claims : goal.decreases-put_changes_claims
decreases-put_changes_claims l = length l.changes.now
