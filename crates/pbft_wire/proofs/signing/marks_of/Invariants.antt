use Rattle.std.proofs.Common.{◌≡◌, map, take}
use Rattle.pbft_wire.specs.Marks.{mark_of}
use Rattle.pbft_wire.proofs.signing.marks_of.Given as goal

abbrev pub invariant-loop-c : goal.invariant-loop-c
invariant-loop-c l = l.all ≡ map (mark_of l.p) (take l.c-index l.certificates)
