use Rattle.std.proofs.Common.{arith}
use Rattle.iss_checkpoint.proofs.SignedLemmas.{not-signed, signed-is}
use Rattle.iss_checkpoint.proofs.checking.is_signed.Goals as goal

pub returns : goal.returns
returns c = λ w n keys. signed-is w c.args.n c.args.directory.now.nodes c.args.statement.now c.args.by c.args.sig.now c.verify_node.result n keys (omega arith) c.verify_node.ensures

pub returns-then-by-n : goal.returns-then-by-n
returns-then-by-n c = λ w n keys. not-signed w c.args.n c.args.statement.now c.args.by c.args.sig.now n (omega arith)
