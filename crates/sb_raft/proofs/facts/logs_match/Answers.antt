use Rattle.sb_raft.proofs.Safety.FactsOfWorlds.{logs-match}
use Rattle.sb_raft.proofs.facts.logs_match.Goals as goal

pub returns : goal.returns
returns c = logs-match
