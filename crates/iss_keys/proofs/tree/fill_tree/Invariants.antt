use Rattle.std.proofs.Common.{◌≡◌, ℕ, ◌+◌, ◌*◌, ◌<◌, length, []}
use Rattle.std.specs.Prelude.{slice_index_or}
use Rattle.iss_keys.specs.Chains.{leaf_value}
use Rattle.iss_keys.specs.Trees.{HasNodesFrom}
use Rattle.iss_keys.proofs.tree.fill_tree.Given as goal

abbrev pub invariant-leaves : goal.invariant-leaves
invariant-leaves l = (p : ℕ) → p < l.q → slice_index_or l.nodes (l.leaves + p) [] ≡ leaf_value l.secret p

abbrev pub invariant-inner : goal.invariant-inner
invariant-inner l = (length l.nodes ≡ 2 * l.leaves) × HasNodesFrom l.secret l.fn.height.levels l.i l.nodes
