pub mod CommitAndMatchIndices
pub mod CommittedEntriesStay
pub mod NextIndexIsInLog
pub mod StepCases
pub mod TermVoteRoleLog
