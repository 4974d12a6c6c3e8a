use Rattle.std.proofs.Common.{◌≡◌, ◌+◌, ◌++◌, length}
use Rattle.iss_node.specs.Internal.Transfers.{at_slots}
use Rattle.iss_node.proofs.transfer.at_slots.Given as goal

abbrev pub invariant-loop-value : goal.invariant-loop-value
invariant-loop-value l = record {
  made : l.delivers.items ≡ at_slots l.fn.first.0 l.yielded;
  whole : l.fn.values ≡ l.yielded ++ l.value-iterator.rest.items;
  next : l.next ≡ l.fn.first.0 + length l.yielded;
}
