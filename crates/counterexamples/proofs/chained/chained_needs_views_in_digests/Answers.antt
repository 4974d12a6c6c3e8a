use Rattle.counterexamples.proofs.DigestsWithoutViews.{digests-without-views-are-not-safe}
use Rattle.counterexamples.proofs.chained.chained_needs_views_in_digests.Goals as goal

pub returns : goal.returns
returns c = digests-without-views-are-not-safe
