use Rattle.sb_raft.proofs.Safety.FactsOfWorlds.{one-leader}
use Rattle.sb_raft.proofs.facts.terms_have_one_leader.Goals as goal

pub returns : goal.returns
returns c = one-leader
