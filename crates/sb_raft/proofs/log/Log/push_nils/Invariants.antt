use Rattle.std.proofs.Common.{◌≡◌, ◌++◌}
use Rattle.sb_raft.specs.Logs.{nils}
use Rattle.sb_raft.proofs.log.Log.push_nils.Given as goal

abbrev pub invariant-loop : goal.invariant-loop
invariant-loop l = l.self ≡ record l.fn.self { entries = l.fn.self.entries ++ nils l.term l.counter }
