use Rattle.std.proofs.Common.{◌≡◌}
use Rattle.iss_network.proofs.Keeping.{gathered_below}
use Rattle.iss_network.proofs.network.Network.due.Given as goal

abbrev pub invariant-loop-core : goal.invariant-loop-core
invariant-loop-core l = (l.self ≡ l.fn.self) × (l.numbers.items ≡ gathered_below l.fn.self l.core)
