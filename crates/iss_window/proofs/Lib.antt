mod Examples
pub mod HistoryLemmas
pub mod KeptLemmas
pub mod LowLemmas
pub mod Members
pub mod SpanLemmas
pub mod TableLemmas
