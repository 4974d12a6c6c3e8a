use Rattle.std.proofs.Common.{◌≡◌, take}
use Rattle.iss_window.specs.Ids.{and_ids}
use Rattle.iss_window.proofs.ids.Ids.add_all.Given as goal

abbrev pub invariant-loop-request : goal.invariant-loop-request
invariant-loop-request l = l.self ≡ and_ids l.fn.self (take l.request-index l.requests)
