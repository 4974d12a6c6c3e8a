use Rattle.std.proofs.Common.{sym, ◌∙◌}
use Rattle.iss_transfer.proofs.PieceGrammar.{ask-bad, ask-found}
use Rattle.iss_transfer.proofs.bodies.decode_ask.Goals as goal

pub returns-then-not-is_empty-clause-bad : goal.returns-then-not-is_empty-clause-bad
returns-then-not-is_empty-clause-bad c = λ at e. ask-bad c.args.epoch.0 at c.args.bytes.now (sym c.is_empty.ensures ∙ c.if-not-is_empty.true) e

pub returns-clause-ok : goal.returns-clause-ok
returns-clause-ok c = ask-found c.args.epoch.0 c.args.bytes.now (sym c.is_empty.ensures ∙ c.if-not-is_empty.false)
