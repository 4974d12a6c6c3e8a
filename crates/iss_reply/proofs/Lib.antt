pub mod ClientLemmas
mod Examples
pub mod LawLemmas
pub mod ReplierLemmas
pub mod RequestLemmas
pub mod StoreLemmas
