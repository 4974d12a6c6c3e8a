pub mod Fields
pub mod CertificateGrammar
pub mod MessageGrammar
pub mod Written
pub mod Table
pub mod Examples
pub mod Stated
