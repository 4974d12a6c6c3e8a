pub mod FourReplicas
pub mod LaterRound
pub mod ReachableWorld
pub mod RoundChange
pub mod Runs
