use Rattle.std.proofs.Common.{◌≡◌, List, drop}
use Rattle.std.specs.Prelude.{not}
use Rattle.iss_rules.specs.Judge.{any}
use Rattle.iss_request.specs.Log.{log_ids}
use Rattle.iss_request.specs.declared.requests.Request.{Request}
use Rattle.iss_request.specs.declared.requests.Value.{Value}
use Rattle.iss_segment.specs.Ground.{noted_before}
use Rattle.iss_window.specs.Kept.{RefinesNoted}
use Rattle.iss_window.specs.Window.{is_inside, place_of}
use Rattle.iss_segment.proofs.judge.is_any_outside.Given as goal

abbrev pub invariant-loop-request : goal.invariant-loop-request
invariant-loop-request l = (before : List Value) → RefinesNoted l.windows (noted_before before) →
    any (λ (q : Request). not (is_inside (place_of l.windows.width (log_ids before) q.id))) l.batch ≡ any (λ (q : Request). not (is_inside (place_of l.windows.width (log_ids before) q.id))) (drop l.request-index l.batch)
