use Rattle.std.proofs.Common.{◌≡◌, ◌≤◌, length}
use Rattle.std.specs.Map.{values_of}
use Rattle.std.specs.Vec.{vec_capacity}
use Rattle.iss_buckets.specs.Internal.Turns.{may_cast_at}
use Rattle.iss_buckets.proofs.NextLemmas.{Cutting}
use Rattle.iss_buckets.proofs.pending.Filed.cut.Given as goal

abbrev pub invariant-scan : goal.invariant-scan
invariant-scan l = record {
  cuts : Cutting (may_cast_at l.turn) l.max (values_of l.fn.self.shelf) l.out.items l.self.shelf l.from;
  room : l.max ≤ vec_capacity l.out;
  count : length l.self.queues ≡ l.turn.layout.now.buckets;
}

abbrev pub decreases-scan : goal.decreases-scan
decreases-scan l = length l.self.shelf
