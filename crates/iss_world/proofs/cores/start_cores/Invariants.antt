use Rattle.iss_world.specs.Refines.{AreFresh}
use Rattle.iss_world.proofs.cores.start_cores.Given as goal

abbrev pub invariant-loop-core : goal.invariant-loop-core
invariant-loop-core g l = AreFresh g.M.Sequenced.spec g.M.Sequenced.refines l.members l.core l.nodes.items
