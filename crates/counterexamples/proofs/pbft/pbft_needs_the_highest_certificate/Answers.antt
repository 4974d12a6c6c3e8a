use Rattle.counterexamples.proofs.LowestCertificate.{not-safe}
use Rattle.counterexamples.proofs.pbft.pbft_needs_the_highest_certificate.Goals as goal

pub returns : goal.returns
returns c = not-safe
