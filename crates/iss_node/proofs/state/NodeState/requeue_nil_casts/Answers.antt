use Rattle.std.proofs.Common.{◌∙◌, ◌++◌, reverse, sym, ap}
use Rattle.iss_model.specs.Node.{is_nil_at}
use Rattle.iss_node.proofs.WaitingRequests.RequestRefines.{back-none, back-some, logged-still, rest-more, whole-next}
use Rattle.iss_node.proofs.state.NodeState.requeue_nil_casts.Goals as goal

pub loop-slot-preserved : goal.loop-slot-preserved
loop-slot-preserved g c =
    let h = c.loop-slot.invariant in
    let nil = sym (c.is_nil.ensures ∙ ap (λ z. is_nil_at (reverse z.log.entries) c.in-Some.slot.0) (c.self.view_is ∙ h.rest)) ∙ c.if-is_nil.false in
    record {
      back = λ all l n. back-none all (reverse c.args.self.now.log.entries) c.loop-slot.self.waiting c.args.self.now.waiting c.loop-slot.yielded c.in-Some.slot c.in-Some.batch nil (h.back all l n);
      rest = h.rest;
      whole = whole-next c.args.casts.items c.loop-slot.yielded (c.in-Some.slot, c.in-Some.batch) _ _ h.whole c.in-Some.ensures.steps.0;
    }

pub loop-slot-preserved-in-Continue-1 : goal.loop-slot-preserved-in-Continue-1
loop-slot-preserved-in-Continue-1 g c =
    let h = c.loop-slot.invariant in
    let nil = sym (c.is_nil.ensures ∙ ap (λ z. is_nil_at (reverse z.log.entries) c.in-Some.slot.0) (c.self.view_is ∙ h.rest)) ∙ c.if-is_nil.true in
    record {
      back = λ all l n. back-some all (reverse c.args.self.now.log.entries) c.loop-slot.self.waiting c.wait_again.new.self.waiting c.args.self.now.waiting c.args.casts.items c.loop-slot.yielded c.in-Some.slot c.in-Some.batch _ nil (h.back all l n) n (h.whole ∙ ap (λ fs. c.loop-slot.yielded ++ fs) c.in-Some.ensures.steps.0)
          (λ new. c.in_ok-wait_again.ensures.back all (logged-still c.args.self.now c.loop-slot.self h.rest all l) new);
      rest = rest-more c.args.self.now c.loop-slot.self c.wait_again.new.self c.in_ok-wait_again.ensures.rest h.rest;
      whole = whole-next c.args.casts.items c.loop-slot.yielded (c.in-Some.slot, c.in-Some.batch) _ _ h.whole c.in-Some.ensures.steps.0;
    }
