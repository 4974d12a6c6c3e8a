use Rattle.iss_world.proofs.BookLemmas.{correct-is}
use Rattle.iss_world.proofs.claims.is_correct.Goals as goal

pub returns-then-node-setup : goal.returns-then-node-setup
returns-then-node-setup c = correct-is c.args.setup.now c.args.node c.is_among.result c.as_slice.result.now c.as_slice.ensures c.if-node-setup.true c.is_among.ensures
