use Rattle.std.proofs.Common.{◌≡◌, List, drop}
use Rattle.iss_rules.specs.Judge.{any}
use Rattle.iss_request.specs.Log.{has_id, log_ids}
use Rattle.iss_request.specs.declared.requests.Request.{Request}
use Rattle.iss_request.specs.declared.requests.Value.{Value}
use Rattle.iss_segment.specs.Ground.{noted_before}
use Rattle.iss_window.specs.Kept.{RefinesNoted}
use Rattle.iss_segment.proofs.judge.is_any_ordered.Given as goal

abbrev pub invariant-loop-request : goal.invariant-loop-request
invariant-loop-request l = (before : List Value) → RefinesNoted l.windows (noted_before before) →
    any (λ (q : Request). has_id q.id (log_ids before)) l.batch ≡ any (λ (q : Request). has_id q.id (log_ids before)) (drop l.request-index l.batch)
