use Rattle.iss_buckets.specs.Internal.Filed.{IsNext}
use Rattle.iss_buckets.proofs.NextLemmas.{castable_below}
use Rattle.iss_buckets.proofs.pending.Filed.next_castable.Given as goal

abbrev pub invariant-loop-bucket : goal.invariant-loop-bucket
invariant-loop-bucket l = IsNext (castable_below l.turn.layout.now l.turn.owner.0 l.turn.marks.now.keys l.bucket) l.self.shelf l.from l.first
