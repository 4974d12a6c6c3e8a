pub mod Certificates
pub mod Hashed
pub mod Known
pub mod Messages
pub mod Paths
pub mod Protocols
pub mod Statements
pub mod Tree
