-- Relations that only private contracts of this crate use: nobody above it reads them.
pub mod Scans
pub mod Additions
pub mod Settling
