use Rattle.std.proofs.Common.{◌≡◌, take, None}
use Rattle.iss_model.specs.Courses.{Machines, driver_of}
use Rattle.iss_model.specs.Driver.{delivers_each}
use Rattle.iss_world.specs.Refines.{HasChanged, RefinesMachines}
use Rattle.iss_world.specs.declared.ends.EventOutcome.TheVariants.{Done}
use Rattle.iss_world.proofs.simulation.Simulation.deliver_each.Given as goal

abbrev pub invariant-loop-packet : goal.invariant-loop-packet
invariant-loop-packet g l = record {
  taken : (w : Machines g.row.M-Msg.Denot) → RefinesMachines g.M.Sequenced.spec g.M.Sequenced.refines l.fn.self w →
      HasChanged g.M.Sequenced.spec g.M.Sequenced.refines None l.self
      (delivers_each (driver_of l.fn.self.setup g.M.Sequenced.spec) (take l.packet-index l.packets) w) Done;
  same : l.self.setup ≡ l.fn.self.setup;
}
