use Rattle.std.proofs.Common.{arith, sym, subst, ap, ◌≡◌, ◌∙◌, ◌<◌, ◌^◌, ◌++◌, List, ℕ, false}
use Rattle.std.specs.Prelude.{reverse}
use Rattle.iss_cluster.proofs.NodeLemmas.{epoch-is, prints-is}
use Rattle.iss_cluster.specs.Nodes.{HasTaken, IsDurable}
use Rattle.iss_keep.specs.State.{KeptState}
use Rattle.iss_loops.specs.NodeBehavior.{NodeBehavior}
use Rattle.iss_replay.specs.Text.{node_block}
use Rattle.iss_request.specs.declared.ids.NodeId.{NodeId}
use Rattle.iss_rules.specs.declared.events.NodeEvent.{NodeEvent}
use Rattle.iss_cluster.proofs.nodes.RunningNode.block.Goals as goal

pub returns-clause-block : goal.returns-clause-block
returns-clause-block g c =
    let m = g.M.Sequenced.spec in
    let refines = g.M.Sequenced.refines in
    let state = g.D.Disk.state in
    let v = c.self.inside.kept in
    let few : c.epoch.result.0 < 2 ^ 64 = omega arith in
    let text = c.of.ensures ∙ c.in_ok-put_node.ensures ∙ ap (λ (bytes : List ℕ). bytes ++ node_block c.self.inside.me.0 c.epoch.result.0 (reverse c.log.result.now.entries)) c.new-block.ensures.items in
    subst (λ (w : KeptState _ _ _). (B : NodeBehavior) (events : List NodeEvent) → HasTaken m refines w B events → (c.of.result ≡ B.prints events) × (B.epoch events < 2 ^ 64)) c.self.view_is
    (λ B events h. (
      text ∙ prints-is m refines state v B events h c.epoch.result.0 (reverse c.log.result.now.entries) c.self.inside.me.0 (ap (λ (i : NodeId). i.0) c.self.invariant.number) c.epoch.ensures.is c.log.ensures.is,
      subst (λ (n : ℕ). n < 2 ^ 64) (epoch-is m refines state v B events h c.epoch.result.0 c.epoch.ensures.is) few,
    ))

pub returns-clause-durable : goal.returns-clause-durable
returns-clause-durable g c =
    subst (λ (v : KeptState _ _ _). IsDurable g.D.Disk.state v) c.self.view_is (c.self.invariant.durable (subst (λ (v : KeptState _ _ _). v.stale ≡ false) (sym c.self.view_is) c.requires))
