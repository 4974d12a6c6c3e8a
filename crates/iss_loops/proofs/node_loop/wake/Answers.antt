use Rattle.std.proofs.Common.{◌∙◌, ℕ, List, get_or, sym, subst, take}
use Rattle.std.proofs.lemmas.Result.{err_from_is_err_and}
use Rattle.iss_loops.proofs.CutLemmas.{takes-reaches, wakes-reaches}
use Rattle.iss_loops.proofs.LoopLemmas.{leader-at}
use Rattle.iss_loops.proofs.PartLemmas.{asks-none, asks-peer, does-as, does-of, does-then, done-as, done-of, fails, opens, stays-here, times-out-all, times-out-more, woken}
use Rattle.iss_loops.specs.Behavior.{AreNodes}
use Rattle.iss_loops.specs.NodeLoop.{takes, times_out, wakes}
use Rattle.iss_loops.specs.NodeSteps.{seen}
use Rattle.iss_request.specs.declared.ids.NodeId.{NodeId}
use Rattle.iss_rules.specs.declared.events.NodeEvent.TheVariants.{AskFrom, Timeout}
use Rattle.iss_loops.proofs.node_loop.wake.Goals as goal

pub loop-leader-init : goal.loop-leader-init
loop-leader-init g c = stays-here 0 _

pub take-requires-clause-open : goal.take-requires-clause-open
take-requires-clause-open g c = opens 0 (λ B. times_out B (take c.loop-leader.leader-index c.as_slice-leaders.result.now)) _ _ c.loop-leader.invariant c.requires

pub take-requires-clause-names : goal.take-requires-clause-names
take-requires-clause-names g c =
    let nodes = subst (λ (ls : List NodeId). AreNodes (g.N.JournaledNode.nodes c.args.node.now) ls) (sym c.as_slice-leaders.ensures) c.in_ok-unfilled.ensures.nodes in
    leader-at (g.N.JournaledNode.nodes c.loop-leader.node) c.as_slice-leaders.result.now c.loop-leader.leader-index _
    (subst (λ (n : ℕ). AreNodes n c.as_slice-leaders.result.now) (sym c.loop-leader.invariant.same) nodes) c.loop-leader-test.true

pub loop-leader-preserved : goal.loop-leader-preserved
loop-leader-preserved g c =
    times-out-more c.as_slice-leaders.result.now c.loop-leader.leader-index (record { 0 = 0 }) _ _ _ c.loop-leader-test.true c.loop-leader.invariant
    (done-of 0 (λ B. takes B (Timeout (get_or c.as_slice-leaders.result.now c.loop-leader.leader-index (record { 0 = 0 })))) _ _ c.take.result _ c.in_ok-take.was (λ B w. takes-reaches B _ w) c.take.ensures)

pub returns-in_err-take : goal.returns-in_err-take
returns-in_err-take g c =
    let leaders = c.as_slice-leaders.result.now in
    let i = c.loop-leader.leader-index in
    let p = err_from_is_err_and c.from_residual-in_err-take.result c.from_residual-in_err-take.ensures.1 in
    rw (p.1, p.2)
    (fails 0 0 (λ B w. takes B (Timeout (get_or leaders i (record { 0 = 0 }))) (times_out B (take i leaders) w)) (λ B. wakes B) _ _ c.take.result _ c.in_err-take.was
    (does-then 0 0 (λ B. times_out B (take i leaders)) (λ B. takes B (Timeout (get_or leaders i (record { 0 = 0 })))) _ _ _ c.take.result c.loop-leader.invariant c.take.ensures))

pub returns-then-nodes-le1 : goal.returns-then-nodes-le1
returns-then-nodes-le1 g c =
    let leaders = c.as_slice-leaders.result.now in
    let here = seen g.N.JournaledNode.has g.N.JournaledNode.leaves g.N.JournaledNode.nodes g.N.JournaledNode.place g.N.JournaledNode.faults g.L.Links.ends g.L.Links.faults c.args.node.now c.args.links.now c.args.progress.now in
    let all = times-out-all leaders c.loop-leader.leader-index here _ c.loop-leader-test.false c.loop-leader.invariant in
    does-of 0 (λ B. wakes B) _ _ _
    (done-as 0 (λ B. times_out B leaders) (λ B. wakes B) _ _
    (λ B events has w at.
    let h = all.goes B events has in
    asks-none c.nodes-nodes.result B (times_out B leaders w) (c.nodes-nodes.ensures.is B h.later h.there) c.if-nodes-le1.true
    ∙ woken leaders here (λ D es there. c.as_slice-leaders.ensures ∙ c.in_ok-unfilled.ensures.leaders D es there) B events has w at)
    (λ B w. wakes-reaches B w) all)

pub take-requires-2-clause-open : goal.take-requires-2-clause-open
take-requires-2-clause-open g c = opens 0 (λ B. times_out B (take c.loop-leader.leader-index c.as_slice-leaders.result.now)) _ _ c.loop-leader.invariant c.requires

pub returns : goal.returns
returns g c =
    let leaders = c.as_slice-leaders.result.now in
    let peer = c.next_of-peer.result in
    let here = seen g.N.JournaledNode.has g.N.JournaledNode.leaves g.N.JournaledNode.nodes g.N.JournaledNode.place g.N.JournaledNode.faults g.L.Links.ends g.L.Links.faults c.args.node.now c.args.links.now c.args.progress.now in
    let all = times-out-all leaders c.loop-leader.leader-index here _ c.loop-leader-test.false c.loop-leader.invariant in
    does-as 0 (λ B w. takes B (AskFrom peer) (times_out B leaders w)) (λ B. wakes B) _ _ c.take-2.result
    (λ B events has w at.
    let h = all.goes B events has in
    asks-peer c.me-me.result c.nodes-nodes.result peer B (times_out B leaders w) (c.nodes-nodes.ensures.is B h.later h.there) (c.me-me.ensures.is B h.later h.there) c.if-nodes-le1.false c.next_of-peer.ensures.peer
    ∙ woken leaders here (λ D es there. c.as_slice-leaders.ensures ∙ c.in_ok-unfilled.ensures.leaders D es there) B events has w at)
    (does-then 0 0 (λ B. times_out B leaders) (λ B. takes B (AskFrom peer)) _ _ _ c.take-2.result all c.take-2.ensures)
