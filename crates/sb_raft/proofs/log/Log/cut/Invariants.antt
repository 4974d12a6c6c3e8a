use Rattle.std.proofs.Common.{◌≡◌, ◌≤◌, ◌-◌, length, take}
use Rattle.std.specs.Prelude.{min}
use Rattle.sb_raft.proofs.log.Log.cut.Given as goal

abbrev pub invariant-down : goal.invariant-down
invariant-down l =
    (l.self.commit ≡ l.fn.self.commit) × (l.self.entries ≡ take (length l.self.entries) l.fn.self.entries)
    × (min l.index (length l.fn.self.entries) ≤ length l.self.entries) × (length l.self.entries ≤ length l.fn.self.entries)

abbrev pub decreases-down : goal.decreases-down
decreases-down l = length l.self.entries - l.index
