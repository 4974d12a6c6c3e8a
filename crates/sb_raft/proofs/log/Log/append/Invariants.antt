use Rattle.std.proofs.Common.{◌≡◌, ◌++◌}
use Rattle.sb_raft.proofs.log.Log.append.Given as goal

abbrev pub invariant-loop-entry : goal.invariant-loop-entry
invariant-loop-entry l = l.self ≡ record l.fn.self { entries = l.fn.self.entries ++ l.yielded }
