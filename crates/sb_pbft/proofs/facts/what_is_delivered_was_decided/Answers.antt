use Rattle.sb_pbft.proofs.Safety.PbftIsSafe.{decided-views}
use Rattle.sb_pbft.proofs.facts.what_is_delivered_was_decided.Goals as goal

pub returns : goal.returns
returns c = λ p w good reached. decided-views p good w reached
