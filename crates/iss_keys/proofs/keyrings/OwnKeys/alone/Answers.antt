use Rattle.iss_keys.proofs.RingLemmas.{ring_none}
use Rattle.iss_keys.proofs.keyrings.OwnKeys.alone.Goals as goal

pub invariant_of-result : goal.invariant_of-result
invariant_of-result c = rw c.new.ensures.items (ring_none c.args.kind c.args.height.levels c.args.height.is_height)
