mod Examples
pub mod FairLemmas
pub mod LayoutLemmas
mod ListedLemmas
pub mod PastLemmas
mod PolicyExamples
pub mod StandingLemmas
