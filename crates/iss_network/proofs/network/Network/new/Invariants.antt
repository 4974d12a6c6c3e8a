use Rattle.std.proofs.Common.{◌≡◌, [], replicate}
use Rattle.iss_network.proofs.network.Network.new.Given as goal

abbrev pub invariant-loop : goal.invariant-loop
invariant-loop l = l.queues.items ≡ replicate l.counter []
