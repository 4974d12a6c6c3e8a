use Rattle.std.proofs.Common.{rules}
use Rattle.iss_keys.proofs.RingLemmas.{ring_at}
use Rattle.iss_keys.proofs.keyrings.OwnKeys.place.Goals as goal

pub returns-in-Some : goal.returns-in-Some
returns-in-Some c =
    rw (← c.self.view_is) (ring_at
    (λ trees. trees.value) c.self.inside.kind c.self.inside.height.levels c.args.number c.self.inside.trees.items
    c.in-Some.trees.now c.self.invariant
    (search rules) (search rules))
