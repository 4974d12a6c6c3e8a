use Rattle.std.proofs.Common.{◌≡◌, ◌↔◌, ◌<◌, ℕ, get_or, IsTrue}
use Rattle.iss_keys.proofs.comparing.same_bytes.Given as goal

-- whether the bytes before this place are equal
abbrev pub invariant-loop-i : goal.invariant-loop-i
invariant-loop-i l = IsTrue l.same ↔ ((k : ℕ) → k < l.i → get_or l.a k 0 ≡ get_or l.b k 0)
