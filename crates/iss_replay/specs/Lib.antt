pub mod Report
pub mod Refines
pub mod Summary
pub mod Text
