use Rattle.std.proofs.Common.{◌≡◌, ℕ, length, slice_index}
use Rattle.iss_window.proofs.windows.zeros.Given as goal

abbrev pub invariant-loop-i : goal.invariant-loop-i
invariant-loop-i l = record { size : length l.zeros.items ≡ l._i; zero : (j : ℕ) → slice_index l.zeros.items j ≡ 0 }
