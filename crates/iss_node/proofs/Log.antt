pub mod ChainExtends
pub mod EpochSlots
pub mod LogIsDelivered
pub mod LogIsExtended
pub mod NilSlots
pub mod NilSlotsOfEpoch
pub mod SlotsKeepValues
