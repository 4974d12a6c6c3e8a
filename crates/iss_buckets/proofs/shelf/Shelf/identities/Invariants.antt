use Rattle.std.proofs.Common.{◌≡◌, ◌++◌}
use Rattle.std.specs.Map.{values_of}
use Rattle.iss_request.specs.Log.{ids}
use Rattle.iss_buckets.proofs.shelf.Shelf.identities.Given as goal

abbrev pub invariant-loop-request : goal.invariant-loop-request
invariant-loop-request l = l.found.items ++ ids l.request-iterator ≡ ids (values_of l.self)
