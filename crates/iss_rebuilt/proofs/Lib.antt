pub mod Pieced
pub mod Refilling
pub mod Rebuilding
pub mod Entries
pub mod Packets
pub mod Sizes
pub mod Encodable
pub mod Heard
pub mod Ballots
pub mod Regular
pub mod Entering
pub mod Resting
pub mod Waking
pub mod Storing
pub mod StaysTurned
pub mod Journals
pub mod Frames
mod RecoveryExample
