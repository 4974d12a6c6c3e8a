mod AcceptedBatches
mod CommitIndex
mod Examples
mod ModuleLaws
mod Refinement
mod Safety
mod StateChanges
