use Rattle.std.proofs.Common.{◌∙◌, ap, option_copied}
use Rattle.pbft_views.proofs.Chosen.{best-passed, best-taken}
use Rattle.pbft_views.proofs.choosing.best.Goals as goal
use Rattle.pbft_views.proofs.choosing.best.Goals.{then-c-slot, else-c-slot}

pub loop-c-preserved : goal.loop-c-preserved
loop-c-preserved c =
    let s = c.args.slot.0 in
    let cs = c.args.certificates.now in
    elim c.if-c-slot.branch [
      | then-c-slot w ↦ ap option_copied w.found-is ∙ w.further-found.ensures ∙ best-taken s cs c.loop-c.c-index c.c-item.result (option_copied c.loop-c.found) c.loop-c-test.true c.c-item.is w.if-c-slot.true c.loop-c.invariant
      | else-c-slot w ↦ ap option_copied w.found-is ∙ best-passed s cs c.loop-c.c-index c.c-item.result (option_copied c.loop-c.found) c.loop-c-test.true c.c-item.is w.if-c-slot.false c.loop-c.invariant
    ]
