use Rattle.std.proofs.Common.{length}
use Rattle.iss_checkpoint.proofs.checking.+are_signed.Given as goal

abbrev pub decreases-are_signed : goal.decreases-are_signed
decreases-are_signed l = length l.signers.now
