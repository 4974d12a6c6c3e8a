mod Examples
pub mod BadLines
pub mod CoreCount
pub mod Encoding
pub mod HeaderTable
pub mod OneScheduleAText
