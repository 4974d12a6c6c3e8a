use Rattle.std.proofs.Common.{◌≡◌, take, drop}
use Rattle.iss_disk.proofs.MemoryLemmas.{EachRestarts}
use Rattle.iss_disk.proofs.memory.restart_all.Given as goal

abbrev pub invariant-loop-i : goal.invariant-loop-i
invariant-loop-i l = record {
  done : EachRestarts (take l.i l.initial.files) (take l.i l.files);
  left : drop l.i l.files ≡ drop l.i l.initial.files;
}
