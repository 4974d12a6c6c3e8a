use Rattle.sb_raft.proofs.CommitIndex.CommitIsGreatest.{commit-greatest}
use Rattle.sb_raft.proofs.laws.the_greatest_is_committed.Goals as goal

pub returns : goal.returns
returns c p me xs good below = commit-greatest p me good below xs
