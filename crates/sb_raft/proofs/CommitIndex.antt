pub mod CommitIsGreatest
pub mod MatchesWereReplied
pub mod SearchFindsGreatest
