pub mod ChainLemmas
mod Examples
pub mod LogLemmas
