use Rattle.std.proofs.Common.{◌≡◌}
use Rattle.std.specs.Prelude.{◌&&◌, not}
use Rattle.iss_model.specs.Node.{flown, flying}
use Rattle.iss_node.specs.Flights.{completed}
use Rattle.iss_request.specs.Log.{has_id}
use Rattle.iss_request.specs.declared.ids.ReqId.{ReqId}
use Rattle.iss_node.proofs.flight.Flight.take_completed.Given as goal

abbrev pub invariant-loop-slot : goal.invariant-loop-slot
invariant-loop-slot l = record {
  gone : l.gone.items ≡ completed l.slots l.yielded;
  casts : l.self-inside.casts.items ≡ flying l.slots l.yielded;
  ids : (x : ReqId) → has_id x l.self-inside.ids ≡ (has_id x l.fn.self.ids && not (has_id x (flown (completed l.slots l.yielded))));
}
