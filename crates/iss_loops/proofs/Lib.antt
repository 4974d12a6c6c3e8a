mod CutLemmas
mod IndexLemmas
mod LoopLemmas
mod NodeLemmas
mod PartLemmas
mod TakeLemmas
mod TraceLemmas
