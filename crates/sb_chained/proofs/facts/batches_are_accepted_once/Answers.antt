use Rattle.sb_chained.proofs.LeaderProposals.OneBatchASlot.{accepted-once}
use Rattle.sb_chained.proofs.facts.batches_are_accepted_once.Goals as goal

pub returns : goal.returns
returns c = λ p w good reached sep. accepted-once p w good reached sep
