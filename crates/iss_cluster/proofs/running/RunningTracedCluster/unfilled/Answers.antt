use Rattle.std.proofs.Common.{sym, subst, ◌≡◌, ◌<◌, IfOk}
use Rattle.std.proofs.lemmas.Result.{IfOk-weaker}
use Rattle.iss_cluster.specs.Clusters.{behavior_of}
use Rattle.iss_cluster.specs.Internal.Running.{RunningState}
use Rattle.iss_loops.specs.Behavior.{AreNodes}
use Rattle.iss_cluster.proofs.RunningLemmas.{core-is, goes-yet, shows-unfilled}
use Rattle.iss_cluster.proofs.running.RunningTracedCluster.unfilled.Goals as goal

pub unfilled-requires : goal.unfilled-requires
unfilled-requires g c =
    let yet = goes-yet g.M.Sequenced.spec g.M.Sequenced.refines _ _ c.self.view_is c.requires.going in
    core-is g.M.Sequenced.spec g.M.Sequenced.refines _ c.self.invariant yet.0 c.args.core
    (subst (λ (r : RunningState _ _). c.args.core < r.trace.setup.n) (sym c.self.view_is) c.requires.core)

pub returns-clause-leaders : goal.returns-clause-leaders
returns-clause-leaders g c =
    let m = g.M.Sequenced.spec in
    let yet = goes-yet g.M.Sequenced.spec g.M.Sequenced.refines _ _ c.self.view_is c.requires.going in
    subst (λ (r : RunningState _ _). IfOk c.unfilled.result (λ leaders. leaders ≡ (behavior_of r.trace.setup m).unfilled r.trace.events c.args.core)) c.self.view_is
    (IfOk-weaker c.unfilled.result _ _ (λ leaders is.
    (shows-unfilled m g.M.Sequenced.refines _ c.self.invariant yet.0
    yet.1 c.args.core leaders is).0) c.unfilled.ensures)

pub returns-clause-nodes : goal.returns-clause-nodes
returns-clause-nodes g c =
    let m = g.M.Sequenced.spec in
    let yet = goes-yet g.M.Sequenced.spec g.M.Sequenced.refines _ _ c.self.view_is c.requires.going in
    subst (λ (r : RunningState _ _). IfOk c.unfilled.result (λ leaders. AreNodes r.trace.setup.n leaders)) c.self.view_is
    (IfOk-weaker c.unfilled.result _ _ (λ leaders is.
    (shows-unfilled m g.M.Sequenced.refines _ c.self.invariant yet.0
    yet.1 c.args.core leaders is).1) c.unfilled.ensures)
