use Rattle.std.proofs.Common.{◌∙◌, subst, List, ℕ}
use Rattle.iss_request.specs.declared.requests.Request.{Request}
use Rattle.iss_buckets.specs.Internal.Filed.{AreFiled}
use Rattle.iss_buckets.proofs.ShelfLemmas.{Filing, filing_more}
use Rattle.iss_buckets.proofs.shelf.Shelf.queued.Goals as goal

pub loop-number-preserved : goal.loop-number-preserved
loop-number-preserved c =
    let qs = c.loop-number.queues in
    let filed : AreFiled 0 c.args.self.now = subst (λ (es : List (ℕ × Request)). AreFiled 0 es) c.self.view_is c.self.invariant.filed in
    let filing = subst (λ (left : List (ℕ × Request)). Filing c.args.self.now left qs) c.in-Some.ensures.steps c.loop-number.invariant.filing in
    record {
      count = c.in_ok-add.ensures.ok.size ∙ c.loop-number.invariant.count;
      filing = filing_more c.args.self.now c.next.new.self c.in-Some.number.now c.in-Some.request.now qs c.add.new.self filed filing c.in_ok-add.ensures.ok;
    }
