use Rattle.std.proofs.Common.{◌-◌, ◌^◌}
use Rattle.iss_node.specs.Internal.Marks.{HoldsTheSame}
use Rattle.iss_node.proofs.saved.Saved.advance.Given as goal

abbrev pub invariant-loop-self : goal.invariant-loop-self
invariant-loop-self l = HoldsTheSame l.fn.self l.self

abbrev pub decreases-loop-self : goal.decreases-loop-self
decreases-loop-self l = 2 ^ 64 - l.self.low
