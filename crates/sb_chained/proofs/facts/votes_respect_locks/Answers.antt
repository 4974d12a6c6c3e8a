use Rattle.sb_chained.proofs.Safety.WorldsAreBroadcasts.{safe-votes}
use Rattle.sb_chained.proofs.facts.votes_respect_locks.Goals as goal

pub returns : goal.returns
returns c = λ p w good reached sep. safe-votes p w good reached sep
