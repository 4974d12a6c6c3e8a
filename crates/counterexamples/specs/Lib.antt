pub mod Chained
pub mod Hotstuff
pub mod Pbft
pub mod Raft
