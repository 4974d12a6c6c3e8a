use Rattle.std.proofs.Common.{◌≤◌, ◌-◌}
use Rattle.iss_sb.specs.Signers.{parse_signed, signer_of}
use Rattle.iss_sb.proofs.Ascending.{Climbs}
use Rattle.iss_sb.proofs.signers.read_signers.Given as goal

abbrev pub invariant-loop : goal.invariant-loop
invariant-loop l = (l.from ≤ 256) × Climbs parse_signed signer_of l.count l.fn.f (l.count - l.counter) l.from l.f l.signers
