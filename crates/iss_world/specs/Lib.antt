pub mod Books
pub mod Headline
pub mod Internal
pub mod Refines
pub mod State
