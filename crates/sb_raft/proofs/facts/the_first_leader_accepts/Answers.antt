use Rattle.sb_raft.proofs.Safety.FactsOfWorlds.{by-first}
use Rattle.sb_raft.proofs.facts.the_first_leader_accepts.Goals as goal

pub returns : goal.returns
returns c = by-first
