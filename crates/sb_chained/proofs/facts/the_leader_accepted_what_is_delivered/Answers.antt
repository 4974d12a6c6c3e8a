use Rattle.sb_chained.proofs.Safety.WorldsAreBroadcasts.{from-leader}
use Rattle.sb_chained.proofs.facts.the_leader_accepted_what_is_delivered.Goals as goal

pub returns : goal.returns
returns c = λ p w good reached sep. from-leader p w good reached sep
