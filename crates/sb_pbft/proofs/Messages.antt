pub mod DecidedDecodes
pub mod LeafSignsOneStatement
pub mod OwnClaimsWereSent
pub mod ReceivedIsWellFormed
pub mod SentDecodes
pub mod SignedWasDrafted
pub mod StepsAreLawful
