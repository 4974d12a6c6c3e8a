use Rattle.sb_pbft.proofs.Model.TurnsAreAsDefined.{turn-is}
use Rattle.sb_pbft.proofs.laws.turns_are_as_defined.Goals as goal

pub returns : goal.returns
returns c = turn-is
