pub mod Adoption
pub mod ForgedClaims
pub mod ForgedClaimsAndCrashes
pub mod RequestPlaces
pub mod StateTransfer
pub mod Twins
