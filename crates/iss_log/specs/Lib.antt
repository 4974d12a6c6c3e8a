pub mod Chains
pub mod LogState
