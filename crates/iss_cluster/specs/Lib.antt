pub mod Clusters
pub mod Internal
pub mod Failures
pub mod Nodes
