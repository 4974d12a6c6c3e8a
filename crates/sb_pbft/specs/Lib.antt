pub mod Internal
pub mod Rules
pub mod Makes
pub mod Pbft
pub mod Facts
pub mod Places
