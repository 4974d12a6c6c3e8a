use Rattle.std.proofs.Common.{subst, sym, ◌≡◌, false}
use Rattle.iss_cluster.specs.Clusters.{IsTracedRun}
use Rattle.iss_cluster.specs.Internal.Running.{RunningState}
use Rattle.iss_schedule.specs.declared.schedules.Schedule.{Schedule}
use Rattle.iss_cluster.proofs.RunningLemmas.{is-traced}
use Rattle.iss_cluster.proofs.running.Running.into_traced.Goals as goal

pub returns-clause-run : goal.returns-clause-run
returns-clause-run g c =
    let m = g.M.Sequenced.spec in
    let refines = g.M.Sequenced.refines in
    rw (← c.self.view_is)
    (subst (λ (t : Schedule). IsTracedRun m refines c.self.inside.trace.setup t c.self.inside.report.world c.self.inside.report.drops c.self.inside.report.ended) (sym c.into_schedule.ensures)
    (is-traced m refines _ c.self.invariant (subst (λ (r : RunningState _ _). r.stale ≡ false) (sym c.self.view_is) c.requires) c.restarts_change_nothing.ensures))
