pub mod ByzantineLeader
pub mod LaterRound
pub mod LooseCommits
pub mod ReachableWorld
pub mod Runs
