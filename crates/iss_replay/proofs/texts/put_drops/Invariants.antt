use Rattle.std.proofs.Common.{◌≡◌, ◌++◌, take, reverse}
use Rattle.iss_replay.specs.Report.{drop_lines}
use Rattle.iss_replay.proofs.texts.put_drops.Given as goal

abbrev pub invariant-loop-drop : goal.invariant-loop-drop
invariant-loop-drop l = l.out.items ≡ l.fn.out.items ++ drop_lines (reverse (take l.drop-index l.drops))
