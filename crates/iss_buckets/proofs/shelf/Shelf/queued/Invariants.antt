use Rattle.std.proofs.Common.{◌≡◌, length}
use Rattle.iss_buckets.proofs.ShelfLemmas.{Filing}
use Rattle.iss_buckets.proofs.shelf.Shelf.queued.Given as goal

abbrev pub invariant-loop-number : goal.invariant-loop-number
invariant-loop-number l = record {
  count : length l.queues ≡ l.buckets;
  filing : Filing l.self l.number-iterator l.queues;
}
