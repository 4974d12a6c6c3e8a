use Rattle.std.proofs.Common.{◌-◌, ◌^◌}
use Rattle.iss_window.specs.Kept.{IsMoved}
use Rattle.iss_window.proofs.spans.raise.Given as goal

abbrev pub invariant-run : goal.invariant-run
invariant-run l = IsMoved l.client l.fn.span l.span l.fn.strays.keys l.strays.keys

abbrev pub decreases-run : goal.decreases-run
decreases-run l = 2 ^ 32 - l.span.low
