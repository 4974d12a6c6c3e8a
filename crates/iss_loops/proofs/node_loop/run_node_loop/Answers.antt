use Rattle.std.proofs.Common.{rules, ◌≡◌, ◌+◌, refl, subst, true, ℕ}
use Rattle.std.proofs.lemmas.Result.{err_from_is_err_and}
use Rattle.iss_loops.proofs.CutLemmas.{turn-reaches}
use Rattle.iss_loops.proofs.PartLemmas.{does-then, done-of, fails, looped, opens, stays-here, turns-more}
use Rattle.iss_loops.specs.NodeLoop.{HasLooped, node_loop_of, turn, turns}
use Rattle.iss_loops.specs.NodeSteps.{seen}
use Rattle.iss_loops.proofs.node_loop.run_node_loop.Goals as goal

pub take_turn-requires-clause-open : goal.take_turn-requires-clause-open
take_turn-requires-clause-open g c = opens c.loop.counter (λ B. turns B c.args.frames c.args.patience c.loop.counter) _ _ c.loop.invariant c.requires

pub loop-init : goal.loop-init
loop-init g c = rw c.new-progress.ensures (stays-here 0 (seen g.N.JournaledNode.has g.N.JournaledNode.leaves g.N.JournaledNode.nodes g.N.JournaledNode.place g.N.JournaledNode.faults g.L.Links.ends g.L.Links.faults c.args.node.now c.args.links.now (record { count = 0; idle = true; idle_turns = 0 })))

pub loop-preserved : goal.loop-preserved
loop-preserved g c =
    turns-more c.args.frames c.args.patience c.loop.counter _ _ _ c.loop.invariant
    (done-of 1 (λ B. turn B c.args.frames c.args.patience) _ _ c.take_turn.result _ c.in_ok-take_turn.was (λ B w. turn-reaches B c.args.frames c.args.patience w) c.take_turn.ensures)

pub returns-in_err-take_turn-clause-cut : goal.returns-in_err-take_turn-clause-cut
returns-in_err-take_turn-clause-cut g c =
    let here = seen g.N.JournaledNode.has g.N.JournaledNode.leaves g.N.JournaledNode.nodes g.N.JournaledNode.place g.N.JournaledNode.faults g.L.Links.ends g.L.Links.faults c.args.node.now c.args.links.now (record { count = 0; idle = true; idle_turns = 0 }) in
    let n = c.loop.counter in
    let p = err_from_is_err_and c.from_residual.result c.from_residual.ensures.1 in
    rw (p.1, p.2)
    ((fails (n + 1) 0 (λ B w. turn B c.args.frames c.args.patience (turns B c.args.frames c.args.patience n w)) (λ B w. w) here _ c.take_turn.result _ c.in_err-take_turn.was
    (does-then n 1 (λ B. turns B c.args.frames c.args.patience n) (λ B. turn B c.args.frames c.args.patience) here _ _ c.take_turn.result c.loop.invariant c.take_turn.ensures)).cut)

pub returns-clause-goes : goal.returns-clause-goes
returns-clause-goes g c = λ B events has.
    let here = seen g.N.JournaledNode.has g.N.JournaledNode.leaves g.N.JournaledNode.nodes g.N.JournaledNode.place g.N.JournaledNode.faults g.L.Links.ends g.L.Links.faults c.args.node.now c.args.links.now (record { count = 0; idle = true; idle_turns = 0 }) in
    let all : c.loop.counter ≡ c.args.turns = search rules in
    subst (λ (n : ℕ). HasLooped events (g.N.JournaledNode.has c.loop.node B) (g.L.Links.ends c.args.links.now) (g.L.Links.ends c.loop.links) (node_loop_of B c.args.frames c.args.patience n events)) all (looped c.args.frames c.args.patience c.loop.counter here _ refl c.loop.invariant B events has)
