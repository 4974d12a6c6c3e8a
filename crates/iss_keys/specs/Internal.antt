-- Relations that only private contracts of this crate use: nobody above it reads them.
pub mod Bottoms
pub mod Held
pub mod Homes
pub mod Questions
pub mod Remembered
pub mod Rings
pub mod Sources
