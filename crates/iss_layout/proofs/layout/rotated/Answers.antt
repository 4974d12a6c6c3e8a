use Rattle.iss_layout.proofs.LayoutLemmas.{rotated_same}
use Rattle.iss_layout.proofs.layout.rotated.Goals as goal

pub returns-clause-value : goal.returns-clause-value
returns-clause-value c = rotated_same c.args.bucket c.args.epoch c.args.count
