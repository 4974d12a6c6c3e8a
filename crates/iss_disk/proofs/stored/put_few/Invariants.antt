use Rattle.std.proofs.Common.{◌≡◌, ◌++◌, ◌≤◌, take, vec_capacity}
use Rattle.iss_disk.proofs.stored.put_few.Given as goal

abbrev pub invariant-loop-i : goal.invariant-loop-i
invariant-loop-i l = record {
  items : l.content.items ≡ l.initial.content.items ++ take l.i l.bytes;
  capacity : vec_capacity l.initial.content ≤ vec_capacity l.content;
}
