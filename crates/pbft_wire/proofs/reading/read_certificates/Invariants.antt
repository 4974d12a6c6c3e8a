use Rattle.std.proofs.Common.{◌-◌, ◌≡◌}
use Rattle.pbft_wire.specs.Certificates.{after_slot, parse_certificate, slot_of}
use Rattle.iss_sb.proofs.Ascending.{Climbs}
use Rattle.pbft_wire.proofs.reading.read_certificates.Given as goal

abbrev pub invariant-loop : goal.invariant-loop
invariant-loop l = Climbs (parse_certificate l.fn.f.version) slot_of l.many l.fn.f (l.many - l.counter) (after_slot l.last) l.f l.certificates × (l.f.version ≡ l.fn.f.version)
