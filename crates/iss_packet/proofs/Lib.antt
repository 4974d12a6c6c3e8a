pub mod OneSpelling
pub mod PacketLemmas
