use Rattle.std.proofs.Common.{◌≡◌, ◌+◌, ◌-◌, ◌/◌, ◌^◌, ◌++◌}
use Rattle.iss_keys.specs.Pieces.{join_below}
use Rattle.iss_keys.specs.Trees.{path_node}
use Rattle.iss_keys.proofs.made.MadeTree.write_path.Given as goal

abbrev pub invariant-levels : goal.invariant-levels
invariant-levels l = record {
  written : l.out.items ≡ l.fn.out.items ++ join_below (path_node l.self-inside.secret l.leaf) l.k;
  place : l.place ≡ 2 ^ (l.self-inside.height.levels - l.k) + l.leaf / 2 ^ l.k;
}
