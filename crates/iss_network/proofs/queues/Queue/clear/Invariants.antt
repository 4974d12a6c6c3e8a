use Rattle.std.proofs.Common.{◌≡◌, take}
use Rattle.iss_network.specs.Kept.{cleared_flags}
use Rattle.iss_network.proofs.queues.Queue.clear.Given as goal

abbrev pub invariant-loop-number : goal.invariant-loop-number
invariant-loop-number l = l.waiting ≡ cleared_flags (take l.number-index l.number-items) l.initial.waiting
