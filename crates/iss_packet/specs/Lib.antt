pub mod Internal
pub mod Packets
