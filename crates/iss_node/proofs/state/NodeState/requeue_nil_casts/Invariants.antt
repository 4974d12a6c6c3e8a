use Rattle.std.proofs.Common.{◌≡◌, ◌++◌, List, reverse}
use Rattle.iss_buckets.specs.Waiting.{AreNew, absent}
use Rattle.iss_model.specs.Node.{returned}
use Rattle.iss_node.specs.Internal.Inputs.{AreLogged}
use Rattle.iss_request.specs.declared.ids.ReqId.{ReqId}
use Rattle.iss_node.proofs.state.NodeState.requeue_nil_casts.Given as goal

abbrev pub invariant-loop-slot : goal.invariant-loop-slot
invariant-loop-slot g l = record {
  back : (all : List ReqId) → AreLogged l.fn.self all → AreNew l.fn.self.waiting (absent all (returned (reverse l.fn.self.log.entries) l.fn.casts.items)) →
      l.self.waiting ≡ l.fn.self.waiting ++ absent all (returned (reverse l.fn.self.log.entries) l.yielded);
  rest : l.self ≡ record l.fn.self { waiting = l.self.waiting };
  whole : l.fn.casts.items ≡ l.yielded ++ l.slot-iterator.rest.items;
}
