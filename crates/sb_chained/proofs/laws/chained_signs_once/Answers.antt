use Rattle.sb_chained.proofs.Safety.VotesSentWereReceived.{chained-signs-once}
use Rattle.sb_chained.proofs.laws.chained_signs_once.Goals as goal

pub returns : goal.returns
returns c = chained-signs-once
