use Rattle.sb_chained.proofs.Safety.WorldsAreBroadcasts.{vote-once}
use Rattle.sb_chained.proofs.facts.votes_are_once_in_ascending_views.Goals as goal

pub returns : goal.returns
returns c = λ p w good reached. vote-once p w good reached
