use Rattle.hs_tree.proofs.MessageGrammar.{message-grammar}
use Rattle.sb_hotstuff.proofs.LeaderProposals.OneBatchASlot.{accepted-once}
use Rattle.sb_hotstuff.proofs.Safety.VotesSentWereReceived.{hotstuff-once}
use Rattle.sb_hotstuff.proofs.ModuleLaws.StepsAreLawful.{hotstuff-lawful}
use Rattle.sb_hotstuff.proofs.Safety.WorldsAreBroadcasts.{hotstuff-safe}
use Rattle.sb_hotstuff.proofs.ModuleLaws.DecidedValuesDecode.{hotstuff-decides-readable}
use Rattle.sb_hotstuff.proofs.hotstuff.HotStuffSequenced.laws.Goals as goal

pub returns-clause-grammar : goal.returns-clause-grammar
returns-clause-grammar c = message-grammar 3

pub returns-clause-lawful : goal.returns-clause-lawful
returns-clause-lawful c = hotstuff-lawful

pub returns-clause-safe : goal.returns-clause-safe
returns-clause-safe c = hotstuff-safe

pub returns-clause-accepts_once : goal.returns-clause-accepts_once
returns-clause-accepts_once c = accepted-once

pub returns-clause-signs_once : goal.returns-clause-signs_once
returns-clause-signs_once c = hotstuff-once

pub returns-clause-decides_readable : goal.returns-clause-decides_readable
returns-clause-decides_readable c = hotstuff-decides-readable
