mod Basics
pub mod Examples
mod LeaderProposals
mod ModuleLaws
mod Refinement
mod Safety
