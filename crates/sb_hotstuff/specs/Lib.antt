pub mod Facts
pub mod HotStuff
pub mod Internal
pub mod Rules
pub mod Drafts
pub mod Refines
pub mod Steps
