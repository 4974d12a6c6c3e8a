pub mod Configs
pub mod Internal
