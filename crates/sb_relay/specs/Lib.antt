pub mod Internal
pub mod Relay
