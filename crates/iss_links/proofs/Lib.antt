mod FrameLemmas
mod MapLemmas
mod PartLemmas
mod RunLemmas
mod SentLemmas
mod JoinedLemmas
