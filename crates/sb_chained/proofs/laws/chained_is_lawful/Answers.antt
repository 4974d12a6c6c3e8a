use Rattle.sb_chained.proofs.ModuleLaws.StepsAreLawful.{chained-is-lawful}
use Rattle.sb_chained.proofs.laws.chained_is_lawful.Goals as goal

pub returns : goal.returns
returns c = chained-is-lawful
