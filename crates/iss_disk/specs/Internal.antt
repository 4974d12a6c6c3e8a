-- Relations that only private contracts of this crate use: nobody above it reads them.
pub mod Untold
pub mod Lists
pub mod Taken
