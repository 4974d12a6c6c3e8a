use Rattle.sb_pbft.proofs.Safety.PbftIsSafe.{chosen-above}
use Rattle.sb_pbft.proofs.facts.proposals_are_choices.Goals as goal

pub returns : goal.returns
returns c = λ p w good reached. chosen-above p good w reached
