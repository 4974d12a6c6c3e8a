use Rattle.sb_chained.proofs.Examples.LooseCommits.{loose-commits-are-not-safe}
use Rattle.sb_chained.proofs.laws.commits_need_consecutive_views.Goals as goal

pub returns : goal.returns
returns c = loose-commits-are-not-safe
