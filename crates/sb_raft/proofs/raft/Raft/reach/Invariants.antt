use Rattle.std.proofs.Common.{◌≡◌, ◌<◌, ◌≤◌, ℕ}
use Rattle.sb_raft.specs.Logs.{term_at}
use Rattle.sb_raft.proofs.raft.Raft.reach.Given as goal

abbrev pub invariant-down : goal.invariant-down
invariant-down l =
    (l.index ≤ l.initial.index) × ((i : ℕ) → l.index < i → i ≤ l.initial.index → l.commit < i → term_at l.self.log.entries i ≡ l.self.term → ⊥)

abbrev pub decreases-down : goal.decreases-down
decreases-down l = l.index
