use Rattle.std.proofs.Common.{◌≡◌, take}
use Rattle.iss_sb.proofs.signers.copy_signers.Given as goal

abbrev pub invariant-loop-signed : goal.invariant-loop-signed
invariant-loop-signed l = l.copies ≡ take l.signed-index l.signers
