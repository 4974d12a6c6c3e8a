use Rattle.std.proofs.Common.{◌≡◌, ◌++◌, List}
use Rattle.iss_buckets.specs.Waiting.{AreNew, absent}
use Rattle.iss_node.specs.Internal.Inputs.{AreLogged}
use Rattle.iss_request.specs.declared.ids.ReqId.{ReqId}
use Rattle.iss_node.proofs.state.NodeState.wait_again.Given as goal

abbrev pub invariant-loop-request : goal.invariant-loop-request
invariant-loop-request g l = record {
  back : (all : List ReqId) → AreLogged l.fn.self all → AreNew l.fn.self.waiting (absent all l.fn.batch) → l.self.waiting ≡ l.fn.self.waiting ++ absent all l.yielded;
  rest : l.self ≡ record l.fn.self { waiting = l.self.waiting };
  whole : l.fn.batch ≡ l.yielded ++ l.request-iterator.rest.items;
}
