pub mod DigitLemmas
mod Examples
pub mod EpochLemmas
pub mod LineLemmas
pub mod NoExport
pub mod OneExport
pub mod ReadLemmas
pub mod SignedEpochs
pub mod WriteLemmas
