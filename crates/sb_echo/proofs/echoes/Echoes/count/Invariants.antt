use Rattle.std.proofs.Common.{◌≡◌, ◌≤◌}
use Rattle.sb_echo.specs.Heard.{has}
use Rattle.iss_base.specs.Quorum.{count_below}
use Rattle.sb_echo.proofs.echoes.Echoes.count.Given as goal

abbrev pub invariant-loop-from : goal.invariant-loop-from
invariant-loop-from l = (l.count ≡ count_below (λ k. has l.self l.slot.0 l.digest k) l.from) × (l.count ≤ l.from)
