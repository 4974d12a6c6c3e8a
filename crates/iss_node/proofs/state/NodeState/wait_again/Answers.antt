use Rattle.std.proofs.Common.{◌∙◌, ◌++◌, sym, ap}
use Rattle.iss_node.proofs.WaitingRequests.RequestRefines.{again-logged, again-waits, logged-still, rest-more, whole-next}
use Rattle.iss_node.proofs.state.NodeState.wait_again.Goals as goal

pub loop-request-preserved : goal.loop-request-preserved
loop-request-preserved g c = record {
  back = λ all h n. again-logged all c.loop-request.self.waiting c.args.self.now.waiting c.loop-request.yielded c.in-Some.request
      (sym (c.is_logged.ensures all (logged-still c.args.self.now c.loop-request.self c.loop-request.invariant.rest all h)) ∙ c.if-not-is_logged.false) (c.loop-request.invariant.back all h n);
  rest = c.loop-request.invariant.rest;
  whole = whole-next c.args.batch c.loop-request.yielded c.in-Some.request _ _ c.loop-request.invariant.whole c.in-Some.ensures.steps.0;
}

pub loop-request-preserved-else-not-is_logged : goal.loop-request-preserved-else-not-is_logged
loop-request-preserved-else-not-is_logged g c = record {
  back = λ all h n. again-logged all c.loop-request.self.waiting c.args.self.now.waiting c.loop-request.yielded c.in-Some.request
      (sym (c.is_logged.ensures all (logged-still c.args.self.now c.loop-request.self c.loop-request.invariant.rest all h)) ∙ c.if-not-is_logged.false) (c.loop-request.invariant.back all h n);
  rest = c.loop-request.invariant.rest;
  whole = whole-next c.args.batch c.loop-request.yielded c.in-Some.request _ _ c.loop-request.invariant.whole c.in-Some.ensures.steps.0;
}

pub loop-request-preserved-in-Continue-1 : goal.loop-request-preserved-in-Continue-1
loop-request-preserved-in-Continue-1 g c = record {
  back = λ all h n. again-waits all c.loop-request.self c.wait.new.self c.args.self.now.waiting c.args.batch c.loop-request.yielded c.in-Some.request _
      (sym (c.is_logged.ensures all (logged-still c.args.self.now c.loop-request.self c.loop-request.invariant.rest all h)) ∙ c.if-not-is_logged.true) (c.loop-request.invariant.back all h n) n (c.loop-request.invariant.whole ∙ ap (λ qs. c.loop-request.yielded ++ qs) c.in-Some.ensures.steps.0) c.in_ok-wait.ensures.ok;
  rest = rest-more c.args.self.now c.loop-request.self c.wait.new.self c.in_ok-wait.ensures.rest c.loop-request.invariant.rest;
  whole = whole-next c.args.batch c.loop-request.yielded c.in-Some.request _ _ c.loop-request.invariant.whole c.in-Some.ensures.steps.0;
}
