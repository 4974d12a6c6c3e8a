pub mod BodyLemmas
pub mod HeaderLemmas
