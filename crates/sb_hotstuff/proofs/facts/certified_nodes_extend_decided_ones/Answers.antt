use Rattle.sb_hotstuff.proofs.Safety.WorldsAreBroadcasts.{extending}
use Rattle.sb_hotstuff.proofs.facts.certified_nodes_extend_decided_ones.Goals as goal

pub returns : goal.returns
returns c = λ p w good reached. extending p w good reached
