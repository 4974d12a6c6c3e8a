use Rattle.std.proofs.Common.{◌∙◌, ◌<◌, ◌^◌, subst, sym}
use Rattle.iss_keys.specs.Trees.{KeyTree}
use Rattle.iss_keys.proofs.levels.KeyTrees.part_above.Goals as goal

pub write_part-requires : goal.write_part-requires
write_part-requires c =
    subst (λ (t : KeyTree). c.args.number < 2 ^ t.height) (sym (c.in_ok-tree.ensures ∙ c.self.invariant.top_is))
    (rw (← c.self.view_is) at c.requires)
