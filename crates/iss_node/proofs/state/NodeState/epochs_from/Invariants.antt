use Rattle.std.proofs.Common.{◌≡◌, ◌-◌, ◌<◌}
use Rattle.iss_node.specs.Internal.Storing.{epochs_to}
use Rattle.iss_node.proofs.state.NodeState.epochs_from.Given as goal

abbrev pub invariant-loop-epoch : goal.invariant-loop-epoch
invariant-loop-epoch g l = record {
  so_far : l.epochs ≡ epochs_to l.self.setup.epoch l.self.log.entries l.fn.from.0 (l.epoch - l.fn.from.0);
  -- a span that ends before it begins
  none : l.epoch-end < l.fn.from.0 → l.epoch ≡ l.fn.from.0;
}
