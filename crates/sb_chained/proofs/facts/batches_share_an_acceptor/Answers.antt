use Rattle.sb_chained.proofs.Safety.WorldsAreBroadcasts.{shared}
use Rattle.sb_chained.proofs.facts.batches_share_an_acceptor.Goals as goal

pub returns : goal.returns
returns c = λ p w good reached sep. shared p w good reached sep
