use Rattle.std.proofs.Common.{◌≡◌, take}
use Rattle.iss_request.specs.Log.{has_id}
use Rattle.iss_request.specs.declared.ids.ReqId.{ReqId}
use Rattle.iss_buckets.proofs.pending.marks_of.Given as goal

abbrev pub invariant-loop-id : goal.invariant-loop-id
invariant-loop-id l = (id : ReqId) → has_id id l.marks.keys ≡ has_id id (take l.id-index l.marked)
