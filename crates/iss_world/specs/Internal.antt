-- Relations that only private contracts of this crate use: nobody above it reads them.
pub mod Shape
pub mod Posting
pub mod Steps
pub mod Texts
