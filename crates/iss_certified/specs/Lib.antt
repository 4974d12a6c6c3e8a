pub mod Exported
pub mod OfRun
