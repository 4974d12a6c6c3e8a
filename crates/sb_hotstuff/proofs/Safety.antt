pub mod BranchesAgree
pub mod LockCoversCommitVotes
pub mod OneVoteAPhase
pub mod VotesHaveCauses
pub mod VotesSentWereReceived
pub mod WorldsAreBroadcasts
