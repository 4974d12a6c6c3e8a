use Rattle.std.proofs.Common.{rules, arith}
use Rattle.iss_keys.proofs.TreeLemmas.{halves_within}
use Rattle.iss_keys.proofs.tree.+node_of.Goals as goal

pub node_of-left-requires : goal.node_of-left-requires
node_of-left-requires t c =
    let within = halves_within c.args.level c.args.place 4096 (search rules) c.requires in
    (omega (arith, c.decreases), within.0)

pub node_of-right-requires : goal.node_of-right-requires
node_of-right-requires t c =
    let within = halves_within c.args.level c.args.place 4096 (search rules) c.requires in
    (omega (arith, c.decreases), within.1)
