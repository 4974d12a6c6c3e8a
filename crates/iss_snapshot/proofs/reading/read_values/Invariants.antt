use Rattle.std.proofs.Common.{◌≡◌, ◌-◌}
use Rattle.iss_request.specs.Formats.{parse_value}
use Rattle.iss_request.proofs.Readings.{Continues}
use Rattle.iss_snapshot.proofs.reading.read_values.Given as goal

abbrev pub invariant-loop : goal.invariant-loop
invariant-loop l = (l.f.version ≡ l.fn.f.version) × Continues (parse_value l.fn.f.version) l.count l.fn.f (l.count - l.counter) l.f l.values
