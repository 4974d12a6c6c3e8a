pub mod ChecksRefine
pub mod DeliveredValues
pub mod InputKeepsInvariant
pub mod InputRefines
pub mod ProposalChecks
pub mod ProposalRefines
