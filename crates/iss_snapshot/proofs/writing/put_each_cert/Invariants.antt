use Rattle.std.proofs.Common.{◌≡◌, take}
use Rattle.std.specs.List.{flat_map}
use Rattle.iss_request.specs.Fields.{and_bytes}
use Rattle.iss_snapshot.specs.Snapshots.{cert_entry}
use Rattle.iss_snapshot.proofs.writing.put_each_cert.Given as goal

abbrev pub invariant-loop-cert : goal.invariant-loop-cert
invariant-loop-cert l = l.out ≡ and_bytes l.fn.out (flat_map cert_entry (take l.cert-index l.certs))
