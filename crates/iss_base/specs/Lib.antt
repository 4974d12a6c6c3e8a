pub mod Counts
pub mod Lists
pub mod Quorum
pub mod Heights
