use Rattle.sb_chained.proofs.Safety.WorldsAreBroadcasts.{chained-safe}
use Rattle.sb_chained.proofs.laws.chained_is_safe.Goals as goal

pub returns : goal.returns
returns c = chained-safe
