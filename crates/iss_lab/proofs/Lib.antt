mod Examples
pub mod GeneratedLemmas
