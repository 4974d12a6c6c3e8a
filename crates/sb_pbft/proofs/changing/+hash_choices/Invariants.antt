use Rattle.std.proofs.Common.{length}
use Rattle.sb_pbft.proofs.changing.+hash_choices.Given as goal

abbrev pub decreases-hash_choices : goal.decreases-hash_choices
decreases-hash_choices l = length l.slots.now
