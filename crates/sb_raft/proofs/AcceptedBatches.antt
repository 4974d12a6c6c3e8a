pub mod LeaderAcceptedBatches
pub mod LogBatchesWereCast
pub mod OneBatchASlot
