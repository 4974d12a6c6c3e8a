use Rattle.sb_raft.proofs.Safety.FactsOfWorlds.{from-leader}
use Rattle.sb_raft.proofs.facts.the_leader_accepted_what_is_delivered.Goals as goal

pub returns : goal.returns
returns c = from-leader
