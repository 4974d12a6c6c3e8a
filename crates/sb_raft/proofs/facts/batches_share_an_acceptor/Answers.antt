use Rattle.sb_raft.proofs.Safety.FactsOfWorlds.{shared-acceptor}
use Rattle.sb_raft.proofs.facts.batches_share_an_acceptor.Goals as goal

pub returns : goal.returns
returns c = shared-acceptor
