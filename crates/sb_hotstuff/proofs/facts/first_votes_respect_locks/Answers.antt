use Rattle.sb_hotstuff.proofs.Safety.WorldsAreBroadcasts.{safe-votes}
use Rattle.sb_hotstuff.proofs.facts.first_votes_respect_locks.Goals as goal

pub returns : goal.returns
returns c = λ p w good reached. safe-votes p w good reached
