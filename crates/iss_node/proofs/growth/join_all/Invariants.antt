use Rattle.std.proofs.Common.{◌≡◌, List, take}
use Rattle.iss_log.specs.Chains.{IsChainOf}
use Rattle.iss_node.specs.Internal.Growth.{AreJoined}
use Rattle.iss_request.specs.declared.requests.Value.{Value}
use Rattle.iss_node.proofs.growth.join_all.Given as goal

abbrev pub invariant-loop-value : goal.invariant-loop-value
invariant-loop-value l = record {
  joined : (log : List Value) → IsChainOf l.fn.chains log → AreJoined l.fn.chains log (take l.value-index l.values) l.chains l.fn.hashed l.hashed;
  version : l.chains.version ≡ l.fn.chains.version;
}
