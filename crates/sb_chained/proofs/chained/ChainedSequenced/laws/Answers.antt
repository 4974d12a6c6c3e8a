use Rattle.hs_tree.proofs.MessageGrammar.{message-grammar}
use Rattle.sb_chained.proofs.LeaderProposals.OneBatchASlot.{accepted-once}
use Rattle.sb_chained.proofs.Safety.VotesSentWereReceived.{chained-signs-once}
use Rattle.sb_chained.proofs.ModuleLaws.StepsAreLawful.{chained-is-lawful}
use Rattle.sb_chained.proofs.Safety.WorldsAreBroadcasts.{chained-safe}
use Rattle.sb_chained.proofs.ModuleLaws.DecidedValuesDecode.{chained-decides-readable}
use Rattle.sb_chained.proofs.chained.ChainedSequenced.laws.Goals as goal

pub returns-clause-grammar : goal.returns-clause-grammar
returns-clause-grammar c = message-grammar 1

pub returns-clause-lawful : goal.returns-clause-lawful
returns-clause-lawful c = chained-is-lawful

pub returns-clause-safe : goal.returns-clause-safe
returns-clause-safe c = chained-safe

pub returns-clause-signs_once : goal.returns-clause-signs_once
returns-clause-signs_once c = chained-signs-once

pub returns-clause-accepts_once : goal.returns-clause-accepts_once
returns-clause-accepts_once c = accepted-once

pub returns-clause-decides_readable : goal.returns-clause-decides_readable
returns-clause-decides_readable c = chained-decides-readable
