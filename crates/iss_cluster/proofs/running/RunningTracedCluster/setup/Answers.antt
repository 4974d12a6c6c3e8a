use Rattle.std.proofs.Common.{subst, sym}
use Rattle.iss_request.specs.Setup.{IsGoodSetup}
use Rattle.iss_schedule.specs.declared.schedules.Schedule.{Schedule}
use Rattle.iss_cluster.proofs.running.RunningTracedCluster.setup.Goals as goal

pub returns-clause-good : goal.returns-clause-good
returns-clause-good g c = subst (λ (t : Schedule). IsGoodSetup t.setup) (sym c.schedule.ensures) c.self.invariant.good.good
