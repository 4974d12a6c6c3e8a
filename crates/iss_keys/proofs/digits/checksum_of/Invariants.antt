use Rattle.std.proofs.Common.{◌≡◌, ◌-◌, ◌*◌, ◌≤◌}
use Rattle.iss_keys.specs.Pieces.{sum_below}
use Rattle.iss_keys.specs.Chains.{nibble}
use Rattle.iss_keys.proofs.digits.checksum_of.Given as goal

abbrev pub invariant-digits : goal.invariant-digits
invariant-digits l = (l.sum ≡ sum_below (λ k. 15 - nibble l.digest k) l.k) × (l.sum ≤ 15 * l.k)
