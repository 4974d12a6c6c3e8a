pub mod Entered
pub mod Flights
pub mod Internal
pub mod Rebuilding
pub mod Saved
pub mod State
pub mod Steps
