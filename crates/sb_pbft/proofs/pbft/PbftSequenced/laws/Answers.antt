use Rattle.pbft_wire.proofs.MessageGrammar.{message-grammar}
use Rattle.sb_pbft.proofs.History.OneBatchASlot.{pbft-accepts-once}
use Rattle.sb_pbft.proofs.Messages.StepsAreLawful.{pbft-lawful}
use Rattle.sb_pbft.proofs.Messages.LeafSignsOneStatement.{pbft-once}
use Rattle.sb_pbft.proofs.Safety.PbftIsSafe.{pbft-safe}
use Rattle.sb_pbft.proofs.Messages.DecidedDecodes.{pbft-decides-readable}
use Rattle.sb_pbft.proofs.pbft.PbftSequenced.laws.Goals as goal

pub returns-clause-grammar : goal.returns-clause-grammar
returns-clause-grammar c = message-grammar

pub returns-clause-lawful : goal.returns-clause-lawful
returns-clause-lawful c = pbft-lawful

pub returns-clause-safe : goal.returns-clause-safe
returns-clause-safe c = pbft-safe

pub returns-clause-accepts_once : goal.returns-clause-accepts_once
returns-clause-accepts_once c = pbft-accepts-once

pub returns-clause-signs_once : goal.returns-clause-signs_once
returns-clause-signs_once c = pbft-once

pub returns-clause-decides_readable : goal.returns-clause-decides_readable
returns-clause-decides_readable c = pbft-decides-readable
