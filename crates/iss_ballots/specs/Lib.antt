pub mod Ballots
pub mod Claims
