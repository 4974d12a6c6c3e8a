-- Relations that only private contracts of this crate use: nobody above it reads them.
pub mod Casts
pub mod Cells
pub mod Epochs
pub mod Growth
pub mod Inputs
pub mod Marks
pub mod Parcels
pub mod Ready
pub mod Rebuilding
pub mod Shape
pub mod Storing
pub mod Transfers
pub mod Votes
