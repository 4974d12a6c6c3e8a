use Rattle.std.proofs.Common.{◌≡◌, drop}
use Rattle.iss_segment.specs.Internal.Marks.{twice}
use Rattle.iss_request.specs.Log.{ids}
use Rattle.iss_segment.proofs.judge.is_any_twice.Given as goal

abbrev pub invariant-loop-place : goal.invariant-loop-place
invariant-loop-place l = twice (ids l.batch) ≡ twice (ids (drop l.place l.batch))
