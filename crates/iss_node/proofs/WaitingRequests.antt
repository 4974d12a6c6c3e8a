pub mod OrderedLeaveWaiting
pub mod ProposalsComplete
pub mod RequestRefines
