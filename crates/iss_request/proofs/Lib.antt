mod Examples
pub mod FormatLemmas
pub mod Identities
pub mod StoppingKinds
pub mod OneSpelling
pub mod ParserLemmas
pub mod Parts
pub mod Readings
