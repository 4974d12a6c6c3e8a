use Rattle.std.proofs.Common.{length}
use Rattle.sb_pbft.proofs.changing.+hash_changes.Given as goal

abbrev pub decreases-hash_changes : goal.decreases-hash_changes
decreases-hash_changes l = length l.changes.now
