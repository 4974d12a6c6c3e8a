pub mod Digest
pub mod Fields
pub mod Formats
pub mod Internal
pub mod Log
pub mod Parsing
pub mod Setup
pub mod Slots
