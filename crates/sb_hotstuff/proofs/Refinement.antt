pub mod DraftsAgree
pub mod InputRefines
pub mod ProposalTestAgrees
pub mod SignedMessagesAgree
pub mod StepEffectsAgree
pub mod TurnRefines
