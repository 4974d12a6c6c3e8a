use Rattle.std.proofs.Common.{◌-◌}
use Rattle.iss_request.proofs.Readings.{Continues}
use Rattle.iss_request.specs.Formats.{parse_request}
use Rattle.iss_snapshot.proofs.reading.read_requests.Given as goal

abbrev pub invariant-loop : goal.invariant-loop
invariant-loop l = Continues parse_request l.count l.fn.f (l.count - l.counter) l.f l.requests
