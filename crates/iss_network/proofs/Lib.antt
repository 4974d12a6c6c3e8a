pub mod Filters
pub mod Keeping
