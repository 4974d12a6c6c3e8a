use Rattle.std.proofs.Common.{◌<◌, sym, arith}
use Rattle.iss_buckets.proofs.shelf.Shelf.get.Goals as goal

pub returns-in-Some-clause-not_last : goal.returns-in-Some-clause-not_last
returns-in-Some-clause-not_last c =
    let below : c.args.number < c.self.inside.next = c.self.invariant.below c.args.number c.in-Some.request.now (sym c.in-Some.ensures.value) in
    omega (arith, below, c.self.invariant.small)
