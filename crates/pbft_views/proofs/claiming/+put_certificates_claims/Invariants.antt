use Rattle.std.proofs.Common.{length}
use Rattle.pbft_views.proofs.claiming.+put_certificates_claims.Given as goal

abbrev pub decreases-put_certificates_claims : goal.decreases-put_certificates_claims
decreases-put_certificates_claims l = length l.certificates.now
