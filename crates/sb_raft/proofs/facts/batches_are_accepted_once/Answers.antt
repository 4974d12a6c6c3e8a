use Rattle.sb_raft.proofs.AcceptedBatches.OneBatchASlot.{accepted-once}
use Rattle.sb_raft.proofs.facts.batches_are_accepted_once.Goals as goal

pub returns : goal.returns
returns c = accepted-once
