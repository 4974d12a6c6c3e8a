use Rattle.std.proofs.Common.{◌≡◌, take}
use Rattle.std.specs.List.{flat_map}
use Rattle.iss_request.specs.Fields.{and_bytes}
use Rattle.iss_sb.specs.Signers.{spell_signed}
use Rattle.iss_sb.proofs.signers.put_signers.Given as goal

abbrev pub invariant-loop-signed : goal.invariant-loop-signed
invariant-loop-signed l = l.out ≡ and_bytes l.fn.out (flat_map spell_signed (take l.signed-index l.signers))
