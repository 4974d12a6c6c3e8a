pub mod CertificatesDescribeLogs
pub mod KeptVotesAreValid
pub mod VotesAreForChains
pub mod VotesDescribeLogs
