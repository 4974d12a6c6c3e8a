pub mod Digits
pub mod Exports
pub mod Refusals
