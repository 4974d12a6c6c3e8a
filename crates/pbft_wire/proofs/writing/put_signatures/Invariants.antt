use Rattle.std.proofs.Common.{◌≡◌, take}
use Rattle.std.specs.List.{flat_map}
use Rattle.iss_request.specs.Fields.{and_bytes}
use Rattle.pbft_wire.specs.Messages.{as_is}
use Rattle.pbft_wire.proofs.writing.put_signatures.Given as goal

abbrev pub invariant-loop-sig : goal.invariant-loop-sig
invariant-loop-sig l = l.out ≡ and_bytes l.fn.out (flat_map as_is (take l.sig-index l.signatures))
