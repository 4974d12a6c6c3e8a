use Rattle.std.proofs.Common.{subst, ◌≡◌, List}
use Rattle.iss_cluster.proofs.NodeLemmas.{castable-is}
use Rattle.iss_cluster.specs.Nodes.{HasTaken}
use Rattle.iss_keep.specs.State.{KeptState}
use Rattle.iss_loops.specs.NodeBehavior.{NodeBehavior}
use Rattle.iss_rules.specs.declared.events.NodeEvent.{NodeEvent}
use Rattle.iss_cluster.proofs.nodes.RunningNodeJournaledNode.castable.Goals as goal

pub returns : goal.returns
returns g c =
    let m = g.M.Sequenced.spec in
    let refines = g.M.Sequenced.refines in
    subst (λ (v : KeptState _ _ _). (B : NodeBehavior) (events : List NodeEvent) → HasTaken m refines v B events → c.castable.result ≡ B.castable events) c.self.view_is
    (λ B events h. castable-is m refines g.D.Disk.state c.self.inside.kept B events h c.castable.result c.castable.ensures.is)
