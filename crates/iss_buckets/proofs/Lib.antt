pub mod CutLemmas
mod Examples
pub mod FiledLemmas
pub mod NextLemmas
pub mod QueueLemmas
pub mod ShelfLemmas
pub mod WaitingLemmas
