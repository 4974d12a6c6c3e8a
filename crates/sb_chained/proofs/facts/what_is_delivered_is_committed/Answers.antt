use Rattle.sb_chained.proofs.Safety.WorldsAreBroadcasts.{are-decided}
use Rattle.sb_chained.proofs.facts.what_is_delivered_is_committed.Goals as goal

pub returns : goal.returns
returns c = λ p w good reached sep. are-decided p w good reached sep
