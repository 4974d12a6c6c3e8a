use Rattle.sb_hotstuff.proofs.Safety.WorldsAreBroadcasts.{rested}
use Rattle.sb_hotstuff.proofs.facts.later_votes_rest_on_certificates.Goals as goal

pub returns : goal.returns
returns c = λ p w good reached. rested p w good reached
