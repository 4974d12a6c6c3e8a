pub mod Checkpoints
pub mod CrashRecovery
pub mod Examples
pub mod NoLoss
pub mod OneTimeKeys
pub mod Refinement
pub mod StoppedRuns
