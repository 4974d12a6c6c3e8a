pub mod CertificatesNoted
pub mod CountsAgree
pub mod InputRefines
pub mod LinksAgree
pub mod MessagesRefine
pub mod SignedMessagesAgree
pub mod StepEffectsAgree
pub mod TurnRefines
