pub mod Branches
pub mod BranchesDecode
mod Examples
mod Reading
pub mod CertificateGrammar
pub mod Claimed
pub mod MessageGrammar
pub mod Nodes
pub mod Places
pub mod Rows
pub mod Signers
mod Stated
