pub mod Numbers
pub mod Good
pub mod Choices
pub mod Statements
pub mod Claimed
pub mod Chosen
