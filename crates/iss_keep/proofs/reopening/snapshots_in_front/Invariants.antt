use Rattle.std.proofs.Common.{◌≡◌, ◌<◌, true, ℕ, []}
use Rattle.std.specs.Prelude.{slice_index_or}
use Rattle.iss_journal.specs.Retained.{is_snapshot}
use Rattle.iss_journal.specs.SharedViews.{shared_in}
use Rattle.iss_keep.proofs.reopening.snapshots_in_front.Given as goal

abbrev pub invariant-loop-k : goal.invariant-loop-k
invariant-loop-k l = (j : ℕ) → j < l.k → is_snapshot (slice_index_or (shared_in l.entries) j []) ≡ true
