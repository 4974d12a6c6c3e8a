use Rattle.std.proofs.Common.{arith, rules, ◌≡◌, ◌∙◌, ◌++◌, [], List, Bool, Some, true, ap, sym, subst}
use Rattle.std.proofs.lemmas.List.{append-nil, nil_from_length}
use Rattle.iss_model.specs.Frames.{frame_of}
use Rattle.iss_model.specs.Node.{takes_request}
use Rattle.iss_node.proofs.Instances.ChecksRefine.{same-on}
use Rattle.iss_node.proofs.Snapshots.PartsAreTaken.{same-refl, request-dropped, request-next, request-taken, then_step}
use Rattle.iss_node.proofs.WaitingRequests.RequestRefines.{whole-next}
use Rattle.iss_node.specs.Internal.Rebuilding.{AreTaken}
use Rattle.iss_rebuilt.specs.Reading.{takes_requests}
use Rattle.iss_request.specs.declared.requests.Request.{Request}
use Rattle.iss_rules.specs.Concrete.{rules_of}
use Rattle.iss_node.proofs.state.NodeState.take_requests.Goals as goal

pub loop-request-init : goal.loop-request-init
loop-request-init g c =
    let whole : c.args.requests ≡ c.into_iter-request-iterator.result.rest.items = search rules in
    record { taken = λ d k. k; same = same-refl c.args.self.now; whole = whole }

pub returns-then-not-was_taken-clause-taken : goal.returns-then-not-was_taken-clause-taken
returns-then-not-was_taken-clause-taken g c = λ d k.
    let m = g.M.Sequenced.spec in
    let h = c.loop-request.invariant in
    let v = c.args.self.now in
    let step = request-taken m g.M.Sequenced.refines v c.loop-request.self c.take_request.new.self h.same c.take_request.ensures.later c.loop-request.yielded c.in-Some.request d c.in_ok-step.step c.in_ok-step.ensures.answer (h.taken d k) in
    request-dropped m g.M.Sequenced.refines (frame_of v.setup m) v.me.0 c.args.requests c.loop-request.yielded c.in-Some.request _ d c.take_request.new.self
    (h.whole ∙ ap (λ (xs : List Request). c.loop-request.yielded ++ xs) c.in-Some.ensures.steps.0)
    (subst (λ (b : Bool). AreTaken m g.M.Sequenced.refines (then_step (takes_requests (frame_of v.setup m) v.me.0 c.loop-request.yielded (Some d)) (λ x. takes_request (rules_of v.setup) m v.me.0 x c.in-Some.request)) c.take_request.new.self b) (sym c.if-not-was_taken.ensures) step)

pub loop-request-preserved : goal.loop-request-preserved
loop-request-preserved g c =
    let m = g.M.Sequenced.spec in
    let h = c.loop-request.invariant in
    let v = c.args.self.now in
    record {
      taken = λ d k.
          let step = request-taken m g.M.Sequenced.refines v c.loop-request.self c.take_request.new.self h.same c.take_request.ensures.later c.loop-request.yielded c.in-Some.request d c.in_ok-step.step c.in_ok-step.ensures.answer (h.taken d k) in
          request-next m g.M.Sequenced.refines (frame_of v.setup m) v.me.0 c.loop-request.yielded c.in-Some.request d c.take_request.new.self
          (subst (λ (b : Bool). AreTaken m g.M.Sequenced.refines (then_step (takes_requests (frame_of v.setup m) v.me.0 c.loop-request.yielded (Some d)) (λ x. takes_request (rules_of v.setup) m v.me.0 x c.in-Some.request)) c.take_request.new.self b) (sym c.if-not-was_taken.ensures) step);
      same = same-on v c.loop-request.self c.take_request.new.self h.same c.take_request.ensures.later;
      whole = whole-next c.args.requests c.loop-request.yielded c.in-Some.request _ _ h.whole c.in-Some.ensures.steps.0;
    }

pub returns-clause-taken : goal.returns-clause-taken
returns-clause-taken g c = λ d k.
    let m = g.M.Sequenced.spec in
    let h = c.loop-request.invariant in
    let v = c.args.self.now in
    let left = c.loop-request.request-iterator.rest in
    let none : left.items ≡ [] = nil_from_length left.items (omega (arith, left.ok.0, c.in-None.ensures.steps.0)) in
    let all : c.loop-request.yielded ≡ c.args.requests = sym (h.whole ∙ ap (λ xs. c.loop-request.yielded ++ xs) none ∙ append-nil c.loop-request.yielded) in
    subst (λ (xs : List Request). AreTaken m g.M.Sequenced.refines (takes_requests (frame_of v.setup m) v.me.0 xs (Some d)) c.loop-request.self true) all (h.taken d k)

pub returns-then-not-was_taken-clause-same : goal.returns-then-not-was_taken-clause-same
returns-then-not-was_taken-clause-same g c = same-on c.args.self.now c.loop-request.self c.take_request.new.self c.loop-request.invariant.same c.take_request.ensures.later

pub returns-in_err-step-clause-same : goal.returns-in_err-step-clause-same
returns-in_err-step-clause-same g c = same-on c.args.self.now c.loop-request.self c.take_request.new.self c.loop-request.invariant.same c.take_request.ensures.later

pub returns-clause-same : goal.returns-clause-same
returns-clause-same g c = c.loop-request.invariant.same
