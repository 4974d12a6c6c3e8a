pub mod CertifiedLemmas
pub mod ExportLemmas
