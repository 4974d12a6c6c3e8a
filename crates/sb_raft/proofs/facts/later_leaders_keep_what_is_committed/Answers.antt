use Rattle.sb_raft.proofs.Safety.FactsOfWorlds.{commits-kept}
use Rattle.sb_raft.proofs.facts.later_leaders_keep_what_is_committed.Goals as goal

pub returns : goal.returns
returns c = commits-kept
