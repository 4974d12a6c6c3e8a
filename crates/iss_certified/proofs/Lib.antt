pub mod CertifiedLemmas
pub mod PrefixLemmas
pub mod RunLemmas
pub mod ShortLemmas
