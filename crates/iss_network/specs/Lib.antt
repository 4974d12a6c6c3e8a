pub mod Kept
pub mod Network
