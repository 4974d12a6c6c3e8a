use Rattle.hs_views.proofs.DeliveredSlotsAgree.{no-more, no-values}
use Rattle.hs_views.proofs.delivering.pair.Goals as goal

pub returns : goal.returns
returns c =
    let rest = c.loop-value.value-iterator.rest in
    no-values c.args.slots.now _ c.loop-value.fresh c.loop-value.place rest.items c.loop-value.invariant (no-more rest.items rest.len c.in-None.ensures.steps.0 rest.ok.0)
