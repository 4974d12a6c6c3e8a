pub mod Commands
pub mod Answers
pub mod Internal
pub mod Replies
pub mod Repliers
pub mod Clients
