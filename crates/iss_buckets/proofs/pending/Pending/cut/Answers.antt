use Rattle.std.proofs.Common.{◌∙◌, ap, List}
use Rattle.std.specs.Map.{values_of}
use Rattle.iss_request.specs.declared.requests.Request.{Request}
use Rattle.iss_buckets.specs.Waiting.{may_cast, cut, uncut}
use Rattle.iss_buckets.proofs.WaitingLemmas.{cut_same}
use Rattle.iss_buckets.proofs.pending.Pending.cut.Goals as goal

pub returns-clause-taken : goal.returns-clause-taken
returns-clause-taken c =
    let p = c.args.layout.now in
    let owner = c.args.owner.0 in
    c.of.ensures ∙ c.in_ok-out.ensures.taken
    ∙ (cut_same p owner c.args.max c.in_ok-marks.marks.keys c.args.marked.now (values_of c.self.inside.filed.shelf) c.in_ok-marks.ensures).0
    ∙ ap (λ (qs : List Request). cut c.args.max (may_cast p owner c.args.marked.now) qs) c.self.view_is

pub returns-clause-left : goal.returns-clause-left
returns-clause-left c =
    let p = c.args.layout.now in
    let owner = c.args.owner.0 in
    c.in_ok-out.ensures.left
    ∙ (cut_same p owner c.args.max c.in_ok-marks.marks.keys c.args.marked.now (values_of c.self.inside.filed.shelf) c.in_ok-marks.ensures).1
    ∙ ap (λ (qs : List Request). uncut c.args.max (may_cast p owner c.args.marked.now) qs) c.self.view_is
