use Rattle.sb_pbft.proofs.Safety.PbftIsSafe.{one-digest}
use Rattle.sb_pbft.proofs.facts.certificates_of_a_view_agree.Goals as goal

pub returns : goal.returns
returns c = λ p w good reached. one-digest p good w reached
