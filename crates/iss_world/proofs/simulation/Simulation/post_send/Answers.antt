use Rattle.std.proofs.Common.{◌≡◌, ◌∙◌, ap, arith, sym, List, ℕ, true, false}
use Rattle.std.specs.List.{filter}
use Rattle.iss_base.specs.Lists.{below}
use Rattle.iss_model.specs.Run.{cores_of, posted_to}
use Rattle.iss_request.specs.declared.setups.Setup.{Setup}
use Rattle.iss_world.specs.Internal.Posting.{is_for}
use Rattle.iss_world.specs.State.{SimulationState, with_network}
use Rattle.iss_world.proofs.PostLemmas.{addressees-are, core-passed, core-posted}
use Rattle.iss_world.proofs.simulation.Simulation.post_send.Goals.{else-is_for, then-is_for+in_ok-post_to}
use Rattle.iss_world.proofs.simulation.Simulation.post_send.Goals as goal

pub loop-core-preserved : goal.loop-core-preserved
loop-core-preserved g c =
    let v = c.args.self.now in
    let same : c.self-in-loop-core.inside.members ≡ v.setup =
    ap (λ (z : SimulationState _ _). z.setup) c.self-in-loop-core.view_is ∙ ap (λ (z : SimulationState _ _). z.setup) c.loop-core.invariant.posted in
    let is : is_for v.setup c.args.send.now.0 c.loop-core.core ≡ c.is_for.result =
    ap (λ (s : Setup). is_for s c.args.send.now.0 c.loop-core.core) (sym same) ∙ sym c.is_for.ensures in
    elim c.if-is_for.branch [
      | then-is_for+in_ok-post_to w ↦ record {
        posted = w.self-is ∙ core-posted v c.loop-core.self w.post_to.new.self c.args.from c.args.send.now c.loop-core.core (is ∙ w.if-is_for.true) c.loop-core.invariant.posted w.in_ok-post_to.ensures.posted;
      }
      | else-is_for w ↦ record { posted = w.self-is ∙ core-passed v c.loop-core.self c.args.from c.args.send.now c.loop-core.core (is ∙ w.if-is_for.false) c.loop-core.invariant.posted }
    ]

pub returns-clause-posted : goal.returns-clause-posted
returns-clause-posted g c =
    let v = c.args.self.now in
    let to = c.args.send.now.0 in
    let end : c.loop-core.core ≡ c.cores-core-end.result = omega (arith, c.loop-core-test.false, c.loop-core.auto.core-end) in
    let all : c.cores-core-end.result ≡ cores_of v.setup = c.cores-core-end.ensures ∙ ap (λ (z : SimulationState _ _). cores_of z.setup) c.self.view_is in
    c.loop-core.invariant.posted
    ∙ ap (λ (k : ℕ). with_network v (posted_to v.network c.args.from c.args.send.now.1 (filter (is_for v.setup to) (below k)))) (end ∙ all)
    ∙ ap (λ (cs : List ℕ). with_network v (posted_to v.network c.args.from c.args.send.now.1 cs)) (addressees-are v.setup to)
