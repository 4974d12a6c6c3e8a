use Rattle.std.proofs.Common.{◌≡◌, ◌≤◌, ◌-◌, ℕ, length}
use Rattle.iss_links.specs.Ends.{empty_end, end_at}
use Rattle.iss_links.proofs.memory.MemoryLinks.new.Given as goal

abbrev pub invariant-loop-ends : goal.invariant-loop-ends
invariant-loop-ends l = (length l.ends.items ≤ 256) × ((i : ℕ) → end_at l.ends.items i ≡ empty_end)

abbrev pub decreases-loop-ends : goal.decreases-loop-ends
decreases-loop-ends l = 256 - length l.ends.items
