use Rattle.std.proofs.Common.{◌-◌}
use Rattle.iss_request.specs.Formats.{parse_signature}
use Rattle.iss_request.proofs.Readings.{Continues}
use Rattle.pbft_wire.proofs.reading.read_signatures.Given as goal

abbrev pub invariant-loop : goal.invariant-loop
invariant-loop l = Continues parse_signature l.many l.fn.f (l.many - l.counter) l.f l.signatures
