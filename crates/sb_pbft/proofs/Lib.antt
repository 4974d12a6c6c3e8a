pub mod Basics
pub mod Examples
pub mod History
pub mod Messages
pub mod Model
pub mod Refinement
pub mod Safety
pub mod ViewChange
