use Rattle.std.proofs.Common.{sym, subst, ◌≡◌, List, IfOk}
use Rattle.std.proofs.lemmas.Result.{IfOk-weaker}
use Rattle.iss_cluster.proofs.NodeLemmas.{leaders-are, leaders-nodes}
use Rattle.iss_cluster.specs.Nodes.{HasTaken}
use Rattle.iss_keep.specs.State.{KeptState}
use Rattle.iss_loops.specs.Behavior.{AreNodes}
use Rattle.iss_loops.specs.NodeBehavior.{IsOpen, NodeBehavior}
use Rattle.iss_rules.specs.declared.events.NodeEvent.{NodeEvent}
use Rattle.iss_cluster.proofs.nodes.RunningNodeJournaledNode.unfilled.Goals as goal

pub returns-clause-leaders : goal.returns-clause-leaders
returns-clause-leaders g c =
    let m = g.M.Sequenced.spec in
    let refines = g.M.Sequenced.refines in
    subst (λ (v : KeptState _ _ _). IfOk c.unfilled.result (λ leaders. (B : NodeBehavior) (events : List NodeEvent) → HasTaken m refines v B events → leaders ≡ B.unfilled events)) c.self.view_is
    (IfOk-weaker c.unfilled.result _ _ (λ leaders are. λ B events h. leaders-are m refines g.D.Disk.state c.self.inside.kept B events h leaders are.is) c.unfilled.ensures)

pub returns-clause-nodes : goal.returns-clause-nodes
returns-clause-nodes g c =
    let m = g.M.Sequenced.spec in
    let refines = g.M.Sequenced.refines in
    let opened = subst (λ (v : KeptState _ _ _). IsOpen (λ B es. HasTaken m refines v B es)) (sym c.self.view_is) c.requires in
    subst (λ (v : KeptState _ _ _). IfOk c.unfilled.result (λ leaders. AreNodes v.setup.n leaders)) c.self.view_is
    (IfOk-weaker c.unfilled.result _ _ (λ leaders are. leaders-nodes m refines g.D.Disk.state c.self.inside.kept opened.0 opened.1 opened.2 leaders are.is) c.unfilled.ensures)
