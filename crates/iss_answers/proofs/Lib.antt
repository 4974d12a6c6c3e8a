pub mod BeliefLemmas
mod Examples
pub mod LineLemmas
pub mod NoText
pub mod OneText
pub mod ReadLemmas
pub mod ShortLemmas
pub mod WrittenLemmas
