use Rattle.std.proofs.Common.{◌≡◌, ◌++◌, take, reverse}
use Rattle.iss_replay.specs.Text.{slot_lines}
use Rattle.iss_replay.proofs.lines.put_slots.Given as goal

abbrev pub invariant-loop-slot : goal.invariant-loop-slot
invariant-loop-slot l = l.out.items ≡ l.fn.out.items ++ slot_lines (reverse (take l.slot l.log.entries))
