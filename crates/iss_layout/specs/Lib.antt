pub mod Internal
pub mod Layout
