pub mod BallotLemmas
pub mod PacketLemmas
