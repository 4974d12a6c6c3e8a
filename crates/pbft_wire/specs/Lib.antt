pub mod Certificates
pub mod Messages
pub mod Statements
pub mod Marks
pub mod Signed
