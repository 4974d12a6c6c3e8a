use Rattle.std.proofs.Common.{length}
use Rattle.iss_sb.proofs.signers.+are_signers.Given as goal

abbrev pub decreases-are_signers : goal.decreases-are_signers
decreases-are_signers l = length l.signers.now
