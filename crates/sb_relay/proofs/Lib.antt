mod Example
pub mod Marks
pub mod Safe
pub mod Spelling
