pub mod Stored
pub mod Reading
pub mod Storable
pub mod Laws
