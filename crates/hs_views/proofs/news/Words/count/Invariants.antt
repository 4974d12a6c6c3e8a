use Rattle.std.proofs.Common.{◌≡◌, ◌≤◌}
use Rattle.hs_views.specs.Counts.{words_at}
use Rattle.hs_views.proofs.news.Words.count.Given as goal

abbrev pub invariant-loop-by : goal.invariant-loop-by
invariant-loop-by l = (l.count ≡ words_at l.self l.by l.round) × (l.count ≤ l.by)
