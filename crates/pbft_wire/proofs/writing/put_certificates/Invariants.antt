use Rattle.std.proofs.Common.{◌≡◌, take}
use Rattle.std.specs.List.{flat_map}
use Rattle.iss_request.specs.Fields.{and_bytes}
use Rattle.pbft_wire.specs.Certificates.{certificate_bytes}
use Rattle.pbft_wire.proofs.writing.put_certificates.Given as goal

abbrev pub invariant-loop-certificate : goal.invariant-loop-certificate
invariant-loop-certificate l = l.out ≡ and_bytes l.fn.out (flat_map (certificate_bytes l.fn.out.version) (take l.certificate-index l.certificates))
