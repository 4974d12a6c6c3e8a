use Rattle.iss_window.proofs.SpanLemmas.{moved-more, moved-none}
use Rattle.iss_window.proofs.spans.raise.Goals as goal

pub run-init : goal.run-init
run-init c = moved-none c.args.client c.args.span c.args.strays.now.keys c.requires.fits

pub run-preserved : goal.run-preserved
run-preserved c =
    moved-more c.args.client c.args.span c.run.span c.step-span.result c.args.strays.now.keys c.run.strays.keys c.step-span.new.strays.keys c.run.invariant c.step-span.ensures.moved
