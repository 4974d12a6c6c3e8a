use Rattle.std.proofs.Common.{◌≢◌, ◌<◌, ℕ, [], get_or}
use Rattle.iss_schedule.specs.Headers.{lines_of_rows, see_all}
use Rattle.iss_schedule.proofs.modules.place_in.Given as goal

abbrev pub invariant-loop-place : goal.invariant-loop-place
invariant-loop-place l = (k : ℕ) → k < l.place → l.line ≢ get_or (lines_of_rows (see_all l.all)) k []
