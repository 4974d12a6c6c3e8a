use Rattle.sb_chained.proofs.Safety.WorldsAreBroadcasts.{agreed}
use Rattle.sb_chained.proofs.facts.nodes_agree.Goals as goal

pub returns : goal.returns
returns c = λ p w good reached sep. agreed p w good reached sep
