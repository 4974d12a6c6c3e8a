use Rattle.sb_pbft.proofs.Safety.PbftIsSafe.{pbft-safe}
use Rattle.sb_pbft.proofs.laws.pbft_is_safe.Goals as goal

pub returns : goal.returns
returns c = pbft-safe
