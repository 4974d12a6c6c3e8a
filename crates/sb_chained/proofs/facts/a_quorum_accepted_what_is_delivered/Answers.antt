use Rattle.sb_chained.proofs.Safety.WorldsAreBroadcasts.{backed}
use Rattle.sb_chained.proofs.facts.a_quorum_accepted_what_is_delivered.Goals as goal

pub returns : goal.returns
returns c = λ p w good reached sep. backed p w good reached sep
