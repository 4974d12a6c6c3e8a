use Rattle.std.proofs.Common.{◌≤◌, ◌-◌, ◌^◌, length}
use Rattle.iss_buckets.specs.Internal.Filed.{FailBetween, is_unmarked_in}
use Rattle.iss_buckets.proofs.pending.Filed.next_unmarked.Given as goal

abbrev pub invariant-run : goal.invariant-run
invariant-run l = record {
  on : l.from ≤ l.at;
  fail : FailBetween (is_unmarked_in (length l.self.queues) l.bucket l.marks.keys) l.self.shelf l.from l.at;
}

abbrev pub decreases-run : goal.decreases-run
decreases-run l = 2 ^ 64 - l.at
