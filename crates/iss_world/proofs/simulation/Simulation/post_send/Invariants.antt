use Rattle.std.proofs.Common.{◌≡◌}
use Rattle.std.specs.List.{filter}
use Rattle.iss_base.specs.Lists.{below}
use Rattle.iss_model.specs.Run.{posted_to}
use Rattle.iss_world.specs.Internal.Posting.{is_for}
use Rattle.iss_world.specs.State.{with_network}
use Rattle.iss_world.proofs.simulation.Simulation.post_send.Given as goal

abbrev pub invariant-loop-core : goal.invariant-loop-core
invariant-loop-core g l = record {
  posted : l.self ≡ with_network l.fn.self (posted_to l.fn.self.network l.from l.send.1 (filter (is_for l.fn.self.setup l.send.0) (below l.core)));
}
