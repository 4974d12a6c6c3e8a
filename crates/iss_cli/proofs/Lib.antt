pub mod AuditLemmas
pub mod BelievingLemmas
pub mod EndLemmas
pub mod RunningLemmas
pub mod TopLemmas
pub mod TraceLemmas
pub mod ViewLemmas
