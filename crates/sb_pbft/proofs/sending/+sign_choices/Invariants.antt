use Rattle.std.proofs.Common.{length}
use Rattle.sb_pbft.proofs.sending.+sign_choices.Given as goal

abbrev pub decreases-sign_choices : goal.decreases-sign_choices
decreases-sign_choices l = length l.slots.now
