use Rattle.sb_pbft.proofs.Safety.PbftIsSafe.{shown}
use Rattle.sb_pbft.proofs.facts.view_changes_show_what_is_committed.Goals as goal

pub returns : goal.returns
returns c = λ p w good reached. shown p good w reached
