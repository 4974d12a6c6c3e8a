pub mod Cores
pub mod Entries
pub mod Internal
pub mod Recovery
pub mod State
pub mod Steps
