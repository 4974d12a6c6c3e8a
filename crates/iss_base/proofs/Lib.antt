pub mod Lists
pub mod Quorum
pub mod HeightLemmas
