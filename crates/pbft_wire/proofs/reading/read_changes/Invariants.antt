use Rattle.std.proofs.Common.{◌-◌, ◌≡◌}
use Rattle.pbft_wire.specs.Certificates.{after_node}
use Rattle.pbft_wire.specs.Messages.{node_of_change, parse_node_change}
use Rattle.iss_sb.proofs.Ascending.{Climbs}
use Rattle.pbft_wire.proofs.reading.read_changes.Given as goal

abbrev pub invariant-loop : goal.invariant-loop
invariant-loop l = Climbs (parse_node_change l.fn.f.version) node_of_change l.many l.fn.f (l.many - l.counter) (after_node l.last) l.f l.changes × (l.f.version ≡ l.fn.f.version)
