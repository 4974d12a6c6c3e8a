use Rattle.std.proofs.Common.{◌∙◌, ◌≤◌, rules}
use Rattle.iss_keys.proofs.WriteLemmas.{one_leaf, one_written}
use Rattle.iss_keys.proofs.levels.KeyTrees.write_parts.Goals as goal

pub write_part-requires : goal.write_part-requires
write_part-requires c =
    let one : c.self.inside.height.levels ≤ 12 = search rules in
    one_leaf c.self.inside.secret c.self.inside.height.levels c.args.leaf c.in_ok-tree.tree.now one
    (rw (← c.self.view_is) at c.requires) (c.in_ok-tree.ensures ∙ c.self.invariant.top_is)

pub returns-then-not-has_two_levels : goal.returns-then-not-has_two_levels
returns-then-not-has_two_levels c =
    let one : c.self.inside.height.levels ≤ 12 = search rules in
    rw (← c.self.view_is) (one_written c.self.inside.secret c.args.statement.now c.digest_of_statement.result
    c.args.out.now.items c.write_part.new.out.items c.self.inside.height.levels c.args.leaf c.in_ok-tree.tree.now one
    (c.in_ok-tree.ensures ∙ c.self.invariant.top_is) c.digest_of_statement.ensures c.in_ok-write_part.ensures)
