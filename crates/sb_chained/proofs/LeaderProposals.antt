pub mod CastsAreAppendOnly
pub mod OneBatchASlot
pub mod ProposalsAreCasts
