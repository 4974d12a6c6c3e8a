use Rattle.std.proofs.Common.{◌≡◌, ◌++◌, drop}
use Rattle.std.specs.Map.{values_of}
use Rattle.iss_buckets.specs.Waiting.{AreNew}
use Rattle.iss_buckets.proofs.pending.Filed.file_all.Given as goal

abbrev pub invariant-loop-request : goal.invariant-loop-request
invariant-loop-request l = record {
  joined : values_of l.self.shelf ++ drop l.request-index l.batch ≡ values_of l.fn.self.shelf ++ l.batch;
  left : AreNew (values_of l.self.shelf) (drop l.request-index l.batch);
}
