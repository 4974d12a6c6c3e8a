use Rattle.sb_chained.proofs.Safety.WorldsAreBroadcasts.{are-votes}
use Rattle.sb_chained.proofs.facts.good_certificates_are_votes.Goals as goal

pub returns : goal.returns
returns c = λ p w good reached. are-votes p w good reached
