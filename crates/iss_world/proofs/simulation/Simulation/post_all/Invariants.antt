use Rattle.std.proofs.Common.{◌≡◌, take}
use Rattle.iss_model.specs.Run.{posted_all}
use Rattle.iss_world.specs.State.{with_network}
use Rattle.iss_world.proofs.simulation.Simulation.post_all.Given as goal

abbrev pub invariant-loop-send : goal.invariant-loop-send
invariant-loop-send g l = record {
  posted : l.self ≡ with_network l.fn.self (posted_all l.fn.self.setup l.fn.self.network l.from (take l.send-index l.sends));
}
