use Rattle.std.proofs.Common.{arith}
use Rattle.sb_raft.proofs.log.Log.len.Goals as goal

pub returns-clause-small : goal.returns-clause-small
returns-clause-small c = let small = c.self.inside.entries.small in let long = c.self.inside.entries.ok in let len = c.len.ensures in omega (arith, small, long.1, len)
