mod MemoryLemmas
mod NoteLemmas
mod StoredLemmas
