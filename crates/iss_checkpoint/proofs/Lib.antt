pub mod CertGrammar
mod Examples
pub mod SignedLemmas
pub mod TallyLemmas
pub mod VoteGrammar
