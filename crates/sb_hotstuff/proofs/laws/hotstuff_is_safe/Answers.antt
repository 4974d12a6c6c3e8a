use Rattle.sb_hotstuff.proofs.Safety.WorldsAreBroadcasts.{hotstuff-safe}
use Rattle.sb_hotstuff.proofs.laws.hotstuff_is_safe.Goals as goal

pub returns : goal.returns
returns c = hotstuff-safe
