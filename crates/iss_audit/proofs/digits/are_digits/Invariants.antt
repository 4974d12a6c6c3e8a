use Rattle.std.proofs.Common.{◌≡◌, ℕ, ◌<◌, slice_index, true}
use Rattle.std.specs.Prelude.{◌↔◌, IsTrue}
use Rattle.iss_audit.specs.Digits.{is_digit}
use Rattle.iss_audit.proofs.digits.are_digits.Given as goal

abbrev pub invariant-loop-c : goal.invariant-loop-c
invariant-loop-c l = IsTrue l.all ↔ ((k : ℕ) → k < l.c-index → is_digit (slice_index l.word k) ≡ true)
