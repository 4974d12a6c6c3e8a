pub mod Bodies
pub mod Internal
