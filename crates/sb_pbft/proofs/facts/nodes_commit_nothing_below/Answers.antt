use Rattle.sb_pbft.proofs.Safety.PbftIsSafe.{quiet}
use Rattle.sb_pbft.proofs.facts.nodes_commit_nothing_below.Goals as goal

pub returns : goal.returns
returns c = λ p w good reached. quiet p good w reached
