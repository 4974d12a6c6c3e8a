pub mod DecidedValuesStay
pub mod PbftIsSafe
pub mod SeenClaimsAreTrue
pub mod SignaturesAreJustified
pub mod VotesAreJustified
