pub mod Certified
pub mod Exporting
