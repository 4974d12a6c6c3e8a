use Rattle.iss_audit.proofs.DigitLemmas.{IsDecoded}
use Rattle.iss_audit.proofs.digits.decode.Given as goal

abbrev pub invariant-bytes : goal.invariant-bytes
invariant-bytes l = IsDecoded l.word l.bytes l.place
