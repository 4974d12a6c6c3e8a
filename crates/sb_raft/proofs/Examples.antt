pub mod ReachableWorld
pub mod Runs
