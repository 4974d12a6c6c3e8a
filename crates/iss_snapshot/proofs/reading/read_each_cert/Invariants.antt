use Rattle.std.proofs.Common.{◌-◌}
use Rattle.iss_request.proofs.Readings.{Continues}
use Rattle.iss_snapshot.specs.Snapshots.{parse_cert_entry}
use Rattle.iss_snapshot.proofs.reading.read_each_cert.Given as goal

abbrev pub invariant-loop : goal.invariant-loop
invariant-loop l = Continues parse_cert_entry l.count l.fn.f (l.count - l.counter) l.f l.certs
