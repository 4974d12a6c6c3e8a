use Rattle.std.proofs.Common.{◌≡◌}
use Rattle.hs_views.specs.Counts.{best_at}
use Rattle.hs_views.proofs.news.Words.best.Given as goal

abbrev pub invariant-loop-by : goal.invariant-loop-by
invariant-loop-by l = l.found ≡ best_at l.self l.by l.round
