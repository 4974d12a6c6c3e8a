use Rattle.std.proofs.Common.{rules, ◌∙◌, ◌<◌, ◌/◌, ◌^◌, ap, sym, subst}
use Rattle.iss_loops.proofs.LoopLemmas.{each-more, goes-as, request-range, went}
use Rattle.iss_loops.specs.Loop.{request_at, requests, step}
use Rattle.iss_loops.specs.Behavior.{Behavior}
use Rattle.iss_loops.specs.Traces.{MayBeMade}
use Rattle.iss_request.specs.Setup.{IsGoodSetup}
use Rattle.iss_request.specs.declared.setups.Setup.{Setup}
use Rattle.iss_schedule.specs.declared.schedules.Event.{Event}
use Rattle.iss_loops.proofs.turns.hand_out.Goals as goal

pub step-requires : goal.step-requires
step-requires g c =
    let B = g.C.TracedCluster.behavior c.loop-core.cluster in
    let same = c.loop-core.invariant.goes.same in
    let good = subst (λ (s : Setup). IsGoodSetup s) c.setup.ensures.same c.setup.ensures.good in
    let leaf = subst (λ (D : Behavior). c.args.i / D.setup.clients < 2 ^ D.setup.keys) (sym same) c.requires in
    let low : c.loop-core.core < B.setup.n = subst (λ (D : Behavior). c.loop-core.core < D.setup.n) (sym same) (search rules) in
    let event = c.in_ok-event.ensures ∙ ap (λ (s : Setup). request_at s.clients c.args.i c.loop-core.core) c.setup.ensures.same in
    subst (λ (e : Event). MayBeMade B.setup e) (sym event) (request-range B.setup c.args.i c.loop-core.core good low leaf)

pub loop-core-preserved : goal.loop-core-preserved
loop-core-preserved g c =
    let B = g.C.TracedCluster.behavior c.loop-core.cluster in
    let event = c.in_ok-event.ensures ∙ ap (λ (s : Setup). request_at s.clients c.args.i c.loop-core.core) c.setup.ensures.same in
    record {
      still = search rules;
      goes = each-more (λ D. requests D c.args.i) c.loop-core.core _ _ _ c.loop-core.invariant.goes
          (goes-as 0 (λ D. step D c.in_ok-event.event) (λ D. requests D c.args.i c.loop-core.core) _ _ (λ l fresh at. ap (λ (e : Event). step B e l) event)
          (went _ c.step.result _ c.in_ok-step.was c.step.ensures.goes));
    }
