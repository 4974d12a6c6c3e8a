use Rattle.sb_raft.proofs.Safety.FactsOfWorlds.{agreed}
use Rattle.sb_raft.proofs.facts.nodes_agree.Goals as goal

pub returns : goal.returns
returns c = agreed
