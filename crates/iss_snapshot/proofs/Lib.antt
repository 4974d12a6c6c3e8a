pub mod Elements
pub mod Entries
pub mod EqualEpochs
mod Example
pub mod SnapshotGrammar
