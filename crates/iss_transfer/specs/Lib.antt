pub mod Adoption
pub mod Bodies
