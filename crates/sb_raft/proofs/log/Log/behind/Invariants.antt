use Rattle.std.proofs.Common.{◌≡◌, take, drop}
use Rattle.sb_raft.proofs.log.Log.behind.Given as goal

abbrev pub invariant-loop-at : goal.invariant-loop-at
invariant-loop-at l = l.copies ≡ drop l.index (take l.at l.self-inside.entries.items)
