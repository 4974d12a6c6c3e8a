use Rattle.sb_pbft.proofs.History.OneBatchASlot.{accepted-once}
use Rattle.sb_pbft.proofs.facts.batches_are_accepted_once.Goals as goal

pub returns : goal.returns
returns c = accepted-once
