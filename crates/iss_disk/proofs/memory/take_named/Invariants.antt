use Rattle.std.proofs.Common.{◌≡◌, drop}
use Rattle.iss_disk.specs.MemoryViews.{history_among}
use Rattle.iss_disk.proofs.memory.take_named.Given as goal

abbrev pub invariant-loop-i : goal.invariant-loop-i
invariant-loop-i l = record {
  passed : history_among l.others.items l.fresh.name.items ≡ history_among (drop l.i l.others.items) l.fresh.name.items;
  same : l.others.items ≡ l.fn.others.items;
}
