use Rattle.std.proofs.Common.{refl}
use Rattle.iss_world.proofs.CoreLemmas.{twin-below}
use Rattle.iss_world.proofs.cores.node_of.Goals as goal

pub returns-clause-below : goal.returns-clause-below
returns-clause-below c = twin-below c.args.setup.now c.requires.good c.as_slice.result.now c.args.core _ _ c.as_slice.ensures c.requires.core c.if-core-setup.false refl
