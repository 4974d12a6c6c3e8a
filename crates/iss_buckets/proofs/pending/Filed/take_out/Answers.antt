use Rattle.std.proofs.Common.{sym, subst, List, ℕ, ◌∙◌}
use Rattle.iss_request.specs.declared.requests.Request.{Request}
use Rattle.iss_buckets.specs.Internal.Filed.{AreQueued}
use Rattle.iss_buckets.proofs.QueueLemmas.{queued-absent, queued_less}
use Rattle.iss_buckets.proofs.pending.Filed.take_out.Goals as goal

pub invariant_of-self-clause-queued : goal.invariant_of-self-clause-queued
invariant_of-self-clause-queued c =
    subst (λ (es : List (ℕ × Request)). AreQueued es c.args.self.now.queues) (sym c.remove.ensures.left)
    (queued-absent c.args.self.now.shelf c.args.self.now.queues c.args.number c.args.self.now.filed c.args.self.now.queued (sym c.remove.ensures.value ∙ c.in_default.is))

pub invariant_of-self-2-clause-queued : goal.invariant_of-self-2-clause-queued
invariant_of-self-2-clause-queued c =
    subst (λ (es : List (ℕ × Request)). AreQueued es c.remove-2.new.self) (sym c.remove.ensures.left)
    (queued_less c.args.self.now.shelf c.args.self.now.queues c.remove-2.new.self c.args.number c.in-Some.request c.args.self.now.filed c.args.self.now.queued (sym c.remove.ensures.value ∙ c.in-Some.is) c.remove-2.ensures)
