use Rattle.std.proofs.Common.{◌≡◌, None}
use Rattle.iss_model.specs.Courses.{Machines, driver_of}
use Rattle.iss_model.specs.Driver.{calms}
use Rattle.iss_world.specs.Refines.{HasChanged, RefinesMachines}
use Rattle.iss_world.specs.declared.ends.EventOutcome.TheVariants.{Done}
use Rattle.iss_world.proofs.simulation.Simulation.calm.Given as goal

abbrev pub invariant-loop-done : goal.invariant-loop-done
invariant-loop-done g l = record {
  calmed : (w : Machines g.row.M-Msg.Denot) → RefinesMachines g.M.Sequenced.spec g.M.Sequenced.refines l.fn.self w →
      HasChanged g.M.Sequenced.spec g.M.Sequenced.refines None l.self
      (calms (driver_of l.fn.self.setup g.M.Sequenced.spec) l.done w) Done;
  same : l.self.setup ≡ l.fn.self.setup;
}
