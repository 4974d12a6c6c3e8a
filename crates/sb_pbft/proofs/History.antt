pub mod AcceptedAndDecided
pub mod OneBatchASlot
pub mod OnePrepareAView
pub mod ViewsGrow
pub mod VotersAreDistinct
