use Rattle.std.proofs.Common.{◌≡◌, ◌++◌, ◌∷◌, codes, take}
use Rattle.iss_schedule.specs.Headers.{node_words}
use Rattle.iss_schedule.specs.Words.{line_of}
use Rattle.iss_schedule.proofs.writing.put_nodes.Given as goal

abbrev pub invariant-loop-node : goal.invariant-loop-node
invariant-loop-node l = l.out.items ≡ l.fn.out.items
    ++ line_of (codes "faulty" ∷ node_words (take l.node-index l.nodes))
