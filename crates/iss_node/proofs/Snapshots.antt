pub mod BytesAreRead
pub mod EpochsAreAdopted
pub mod KeysAreOwn
pub mod NodeIsWoken
pub mod PartsAreTaken
pub mod SnapshotContinues
