pub mod Kept
pub mod History
pub mod Window
pub mod Ids
