pub mod LeafSignsOnce
pub mod LivesAreOfJournals
pub mod OwnClaims
