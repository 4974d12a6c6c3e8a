use Rattle.sb_pbft.proofs.Safety.PbftIsSafe.{fixed}
use Rattle.sb_pbft.proofs.facts.later_views_keep_what_is_decided.Goals as goal

pub returns : goal.returns
returns c = λ p w good reached. fixed p good w reached
