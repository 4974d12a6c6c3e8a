mod Examples
pub mod ConfigLemmas
pub mod TableLemmas
