use Rattle.sb_pbft.proofs.Safety.PbftIsSafe.{one-vote-each}
use Rattle.sb_pbft.proofs.facts.nodes_vote_once.Goals as goal

pub returns : goal.returns
returns c = λ p w good reached. one-vote-each p good w reached
