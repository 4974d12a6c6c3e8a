pub mod MarksLemmas
pub mod SegmentLemmas
pub mod Signed
