pub mod Bodies
pub mod Certificates
pub mod Tallies
pub mod Votes
