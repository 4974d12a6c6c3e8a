use Rattle.std.proofs.Common.{◌≡◌, take}
use Rattle.std.specs.Prelude.{◌&&◌, not}
use Rattle.iss_request.specs.Log.{has_id, ids}
use Rattle.iss_request.specs.declared.ids.ReqId.{ReqId}
use Rattle.iss_window.proofs.ids.Ids.drop_all.Given as goal

abbrev pub invariant-loop-request : goal.invariant-loop-request
invariant-loop-request l = (x : ReqId) → has_id x l.self ≡ (has_id x l.fn.self && not (has_id x (ids (take l.request-index l.requests))))
