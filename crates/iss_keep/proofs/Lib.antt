pub mod DiskLemmas
pub mod EntryLemmas
mod RetainLemmas
pub mod KeptLemmas
pub mod LeafLemmas
pub mod LifeLemmas
pub mod RecoveryLemmas
pub mod ReplayLemmas
pub mod SnapshotLemmas
pub mod StepLemmas
pub mod TakenLemmas
pub mod WriteLemmas
