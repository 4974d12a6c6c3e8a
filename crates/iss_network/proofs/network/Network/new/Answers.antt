use Rattle.std.proofs.Common.{rules}
use Rattle.iss_network.proofs.Keeping.{empty_kept}
use Rattle.iss_network.proofs.network.Network.new.Goals as goal

pub invariant_of-result : goal.invariant_of-result
invariant_of-result c =
    empty_kept c.loop.counter c.new-2.result.items c.new-3.result.items c.loop.queues.items c.in_ok-vec.field-0.items
    c.new-2.ensures.items c.new-3.ensures.items c.loop.invariant (search rules)
