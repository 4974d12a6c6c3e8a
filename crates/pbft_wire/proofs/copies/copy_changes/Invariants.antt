use Rattle.std.proofs.Common.{◌≡◌, take}
use Rattle.pbft_wire.proofs.copies.copy_changes.Given as goal

abbrev pub invariant-loop-x : goal.invariant-loop-x
invariant-loop-x l = l.all ≡ take l.x-index l.changes
