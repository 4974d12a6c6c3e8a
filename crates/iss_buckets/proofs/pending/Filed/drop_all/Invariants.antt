use Rattle.std.proofs.Common.{◌≡◌, take}
use Rattle.std.specs.Map.{values_of}
use Rattle.iss_request.specs.Log.{ids}
use Rattle.iss_buckets.specs.Waiting.{absent}
use Rattle.iss_buckets.proofs.pending.Filed.drop_all.Given as goal

abbrev pub invariant-loop-request : goal.invariant-loop-request
invariant-loop-request l = values_of l.self.shelf ≡ absent (ids (take l.request-index l.batch)) (values_of l.fn.self.shelf)
