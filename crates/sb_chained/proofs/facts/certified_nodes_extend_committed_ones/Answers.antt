use Rattle.sb_chained.proofs.Safety.WorldsAreBroadcasts.{extending}
use Rattle.sb_chained.proofs.facts.certified_nodes_extend_committed_ones.Goals as goal

pub returns : goal.returns
returns c = λ p w good reached sep. extending p w good reached sep
