use Rattle.std.proofs.Common.{◌≡◌, take}
use Rattle.std.specs.Prelude.{fold}
use Rattle.iss_node.specs.Internal.Growth.{and_values, waits_on}
use Rattle.iss_node.proofs.growth.retire_ordered.Given as goal

abbrev pub invariant-loop-value : goal.invariant-loop-value
invariant-loop-value l = record {
  wait : l.waiting ≡ fold waits_on l.fn.waiting (take l.value-index l.values);
  noted : l.logged ≡ fold and_values l.fn.logged (take l.value-index l.values);
}
