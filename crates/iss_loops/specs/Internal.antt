-- Relations that only contracts of this crate's own types use.
pub mod PacketIndex
