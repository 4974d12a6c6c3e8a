use Rattle.std.proofs.Common.{length}
use Rattle.sb_pbft.proofs.changing.+hash_values.Given as goal

abbrev pub decreases-hash_values : goal.decreases-hash_values
decreases-hash_values l = length l.certificates.now
