use Rattle.sb_chained.proofs.Safety.WorldsAreBroadcasts.{one-node-view}
use Rattle.sb_chained.proofs.facts.views_have_one_node.Goals as goal

pub returns : goal.returns
returns c = λ p w good reached. one-node-view p w good reached
