use Rattle.std.proofs.Common.{◌≡◌}
use Rattle.iss_keys.specs.Signatures.{climb}
use Rattle.iss_keys.proofs.tree.root_from_leaf.Given as goal

abbrev pub invariant-levels : goal.invariant-levels
invariant-levels l = l.x ≡ climb l.leaf l.part l.fn.value l.k
