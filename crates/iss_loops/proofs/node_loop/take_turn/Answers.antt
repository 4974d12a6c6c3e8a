use Rattle.std.proofs.Common.{true}
use Rattle.std.proofs.lemmas.Result.{err_from_is_err_and}
use Rattle.iss_loops.proofs.CutLemmas.{proposes-reaches, receives-reaches}
use Rattle.iss_loops.proofs.PartLemmas.{does-of, does-then, done-of, done-then, fails, idles, rests-busy, rests-idle, rests-wakes}
use Rattle.iss_loops.specs.NodeLoop.{proposes, receives, rests, turn}
use Rattle.iss_loops.specs.NodeSteps.{seen}
use Rattle.iss_loops.proofs.node_loop.take_turn.Goals as goal

pub returns-in_err-propose : goal.returns-in_err-propose
returns-in_err-propose g c =
    let here = seen g.N.JournaledNode.has g.N.JournaledNode.leaves g.N.JournaledNode.nodes g.N.JournaledNode.place g.N.JournaledNode.faults g.L.Links.ends g.L.Links.faults c.args.node.now c.args.links.now c.args.progress.now in
    let p = err_from_is_err_and c.from_residual.result c.from_residual.ensures.1 in
    rw (p.1, p.2)
    (fails 0 1 (λ B w. proposes B (record w { idle = true })) (λ B. turn B c.args.frames c.args.patience) here _ c.propose.result _ c.in_err-propose.was
    (does-then 0 0 (λ B w. record w { idle = true }) (λ B. proposes B) here _ _ c.propose.result (idles true here) c.propose.ensures))

pub returns-in_err-receive : goal.returns-in_err-receive
returns-in_err-receive g c =
    let here = seen g.N.JournaledNode.has g.N.JournaledNode.leaves g.N.JournaledNode.nodes g.N.JournaledNode.place g.N.JournaledNode.faults g.L.Links.ends g.L.Links.faults c.args.node.now c.args.links.now c.args.progress.now in
    let first = done-then 0 0 (λ B w. record w { idle = true }) (λ B. proposes B) here _ _ (idles true here) (done-of 0 (λ B. proposes B) _ _ c.propose.result _ c.in_ok-propose.was (λ B w. proposes-reaches B w) c.propose.ensures) in
    let p = err_from_is_err_and c.from_residual-in_err-receive.result c.from_residual-in_err-receive.ensures.1 in
    rw (p.1, p.2)
    (fails 0 1 (λ B w. receives B c.args.frames (proposes B (record w { idle = true }))) (λ B. turn B c.args.frames c.args.patience) here _ c.receive.result _ c.in_err-receive.was
    (does-then 0 0 (λ B w. proposes B (record w { idle = true })) (λ B. receives B c.args.frames) here _ _ c.receive.result first c.receive.ensures))

pub returns-then-not-progress : goal.returns-then-not-progress
returns-then-not-progress g c =
    let here = seen g.N.JournaledNode.has g.N.JournaledNode.leaves g.N.JournaledNode.nodes g.N.JournaledNode.place g.N.JournaledNode.faults g.L.Links.ends g.L.Links.faults c.args.node.now c.args.links.now c.args.progress.now in
    let first = done-then 0 0 (λ B w. record w { idle = true }) (λ B. proposes B) here _ _ (idles true here) (done-of 0 (λ B. proposes B) _ _ c.propose.result _ c.in_ok-propose.was (λ B w. proposes-reaches B w) c.propose.ensures) in
    let second = done-then 0 0 (λ B w. proposes B (record w { idle = true })) (λ B. receives B c.args.frames) here _ _ first (done-of 0 (λ B. receives B c.args.frames) _ _ c.receive.result _ c.in_ok-receive.was (λ B w. receives-reaches B c.args.frames w) c.receive.ensures) in
    does-of 1 (λ B. turn B c.args.frames c.args.patience) here _ _ (done-then 0 1 (λ B w. receives B c.args.frames (proposes B (record w { idle = true }))) (λ B. rests B c.args.patience) here _ _ second (rests-busy c.args.patience _ c.if-not-progress.true))

pub returns-then-progress-patience : goal.returns-then-progress-patience
returns-then-progress-patience g c =
    let here = seen g.N.JournaledNode.has g.N.JournaledNode.leaves g.N.JournaledNode.nodes g.N.JournaledNode.place g.N.JournaledNode.faults g.L.Links.ends g.L.Links.faults c.args.node.now c.args.links.now c.args.progress.now in
    let first = done-then 0 0 (λ B w. record w { idle = true }) (λ B. proposes B) here _ _ (idles true here) (done-of 0 (λ B. proposes B) _ _ c.propose.result _ c.in_ok-propose.was (λ B w. proposes-reaches B w) c.propose.ensures) in
    let second = done-then 0 0 (λ B w. proposes B (record w { idle = true })) (λ B. receives B c.args.frames) here _ _ first (done-of 0 (λ B. receives B c.args.frames) _ _ c.receive.result _ c.in_ok-receive.was (λ B w. receives-reaches B c.args.frames w) c.receive.ensures) in
    does-of 1 (λ B. turn B c.args.frames c.args.patience) here _ _ (done-then 0 1 (λ B w. receives B c.args.frames (proposes B (record w { idle = true }))) (λ B. rests B c.args.patience) here _ _ second (rests-idle c.args.patience _ c.if-not-progress.false c.if-progress-patience.true))

pub returns : goal.returns
returns g c =
    let here = seen g.N.JournaledNode.has g.N.JournaledNode.leaves g.N.JournaledNode.nodes g.N.JournaledNode.place g.N.JournaledNode.faults g.L.Links.ends g.L.Links.faults c.args.node.now c.args.links.now c.args.progress.now in
    let first = done-then 0 0 (λ B w. record w { idle = true }) (λ B. proposes B) here _ _ (idles true here) (done-of 0 (λ B. proposes B) _ _ c.propose.result _ c.in_ok-propose.was (λ B w. proposes-reaches B w) c.propose.ensures) in
    let second = done-then 0 0 (λ B w. proposes B (record w { idle = true })) (λ B. receives B c.args.frames) here _ _ first (done-of 0 (λ B. receives B c.args.frames) _ _ c.receive.result _ c.in_ok-receive.was (λ B w. receives-reaches B c.args.frames w) c.receive.ensures) in
    does-then 0 1 (λ B w. receives B c.args.frames (proposes B (record w { idle = true }))) (λ B. rests B c.args.patience) here _ _ c.wake.result second
    (rests-wakes c.args.patience _ _ c.wake.result c.if-not-progress.false c.if-progress-patience.false c.wake.ensures)
