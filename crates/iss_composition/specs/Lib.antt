pub mod Cluster
pub mod Ordered
pub mod Checkpoints
pub mod Instances
