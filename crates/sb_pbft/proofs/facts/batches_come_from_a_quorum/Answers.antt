use Rattle.sb_pbft.proofs.Safety.PbftIsSafe.{roots}
use Rattle.sb_pbft.proofs.facts.batches_come_from_a_quorum.Goals as goal

pub returns : goal.returns
returns c = λ p w good reached sep. roots p good w reached sep
