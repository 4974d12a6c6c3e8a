use Rattle.std.proofs.Common.{◌≡◌, ◌<◌, ℕ, get_or}
use Rattle.iss_schedule.specs.declared.modules.Module.{Module}
use Rattle.iss_schedule.proofs.modules.line_in.Given as goal

abbrev pub invariant-loop-place : goal.invariant-loop-place
invariant-loop-place l = (d : Module) (k : ℕ) → k < l.place → (get_or l.all k d).number ≡ l.number → ⊥
