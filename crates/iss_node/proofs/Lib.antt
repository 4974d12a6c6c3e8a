pub mod EpochEnd
pub mod Instances
pub mod Log
pub mod Snapshots
pub mod StateTransfer
pub mod Steps
pub mod WaitingRequests
pub mod Wire
