use Rattle.std.proofs.Common.{◌∙◌, ap, option_copied}
use Rattle.pbft_views.specs.Choice.{best, further}
use Rattle.pbft_views.proofs.Chosen.{shown-more}
use Rattle.pbft_views.proofs.choosing.best_shown.Goals as goal

pub loop-x-preserved : goal.loop-x-preserved
loop-x-preserved c =
    c.further-found.ensures ∙ ap (further (option_copied c.loop-x.found)) (c.best.ensures ∙ ap (best c.args.slot.0) c.as_slice.ensures) ∙
    shown-more c.args.slot.0 c.args.changes.now c.loop-x.x-index c.x-item.result (option_copied c.loop-x.found) c.loop-x-test.true c.x-item.is c.loop-x.invariant
