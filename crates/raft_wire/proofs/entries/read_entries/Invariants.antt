use Rattle.std.proofs.Common.{◌≡◌, ◌-◌}
use Rattle.raft_wire.specs.Entries.{parse_entry}
use Rattle.iss_request.proofs.Readings.{Continues}
use Rattle.raft_wire.proofs.entries.read_entries.Given as goal

abbrev pub invariant-loop : goal.invariant-loop
invariant-loop l = (l.f.version ≡ l.fn.f.version) × Continues (parse_entry l.fn.f.version) l.count l.fn.f (l.count - l.counter) l.f l.entries
