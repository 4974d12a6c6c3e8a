use Rattle.sb_chained.proofs.Safety.WorldsAreBroadcasts.{standing}
use Rattle.sb_chained.proofs.facts.votes_stand_on_certificates.Goals as goal

pub returns : goal.returns
returns c = λ p w good reached. standing p w good reached
