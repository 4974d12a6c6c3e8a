use Rattle.sb_raft.proofs.ModuleLaws.StepsAreLawful.{raft-lawful}
use Rattle.sb_raft.proofs.laws.raft_is_lawful.Goals as goal

pub returns : goal.returns
returns c = raft-lawful
