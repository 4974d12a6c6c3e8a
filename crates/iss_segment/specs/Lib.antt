pub mod Answers
pub mod Ground
pub mod Instance
pub mod Internal
