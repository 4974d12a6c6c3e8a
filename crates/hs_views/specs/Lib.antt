pub mod Accepted
pub mod Batches
pub mod Counts
pub mod Delivered
pub mod Drafts
pub mod Sending
pub mod Turns
pub mod Views
