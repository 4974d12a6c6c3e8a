pub mod Committed
pub mod Facts
pub mod Held
pub mod Kept
pub mod Logs
pub mod Raft
pub mod Rules
pub mod Refines
