use Rattle.raft_wire.proofs.MessageGrammar.{message-grammar}
use Rattle.sb_raft.proofs.AcceptedBatches.OneBatchASlot.{raft-accepts-once}
use Rattle.sb_raft.proofs.ModuleLaws.StepsAreLawful.{raft-lawful, raft-once}
use Rattle.sb_raft.proofs.Safety.WorldsAreBroadcasts.{raft-safe}
use Rattle.sb_raft.proofs.ModuleLaws.DecidedValuesDecode.{raft-decides-readable}
use Rattle.sb_raft.proofs.raft.RaftSequenced.laws.Goals as goal

pub returns-clause-grammar : goal.returns-clause-grammar
returns-clause-grammar c = message-grammar

pub returns-clause-lawful : goal.returns-clause-lawful
returns-clause-lawful c = raft-lawful

pub returns-clause-safe : goal.returns-clause-safe
returns-clause-safe c = raft-safe

pub returns-clause-accepts_once : goal.returns-clause-accepts_once
returns-clause-accepts_once c = raft-accepts-once

pub returns-clause-signs_once : goal.returns-clause-signs_once
returns-clause-signs_once c = raft-once

pub returns-clause-decides_readable : goal.returns-clause-decides_readable
returns-clause-decides_readable c = raft-decides-readable
