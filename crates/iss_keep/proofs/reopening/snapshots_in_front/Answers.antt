use Rattle.std.proofs.Common.{rules, arith, ◌≡◌, ◌<◌, false, length, []}
use Rattle.std.specs.Prelude.{slice_index_or}
use Rattle.iss_journal.specs.Retained.{is_snapshot}
use Rattle.iss_journal.specs.SharedViews.{shared_in}
use Rattle.iss_keep.proofs.reopening.snapshots_in_front.Goals as goal

pub returns-then-not-is_snapshot : goal.returns-then-not-is_snapshot
returns-then-not-is_snapshot c =
    let lt : c.loop-k.k < length (shared_in c.args.entries.now) = search rules in
    let kind : is_snapshot (slice_index_or (shared_in c.args.entries.now) c.loop-k.k []) ≡ false = search rules in
    record { within = omega (arith, lt); are = c.loop-k.invariant; last = λ z. kind }
