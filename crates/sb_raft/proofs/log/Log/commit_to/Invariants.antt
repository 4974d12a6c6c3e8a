use Rattle.std.proofs.Common.{◌≡◌, ◌≤◌, ◌-◌, take, drop}
use Rattle.std.specs.Prelude.{max}
use Rattle.iss_sb.specs.Paired.{paired}
use Rattle.sb_raft.specs.Logs.{contents, filled}
use Rattle.sb_raft.proofs.log.Log.commit_to.Given as goal

abbrev pub invariant-up : goal.invariant-up
invariant-up l =
    (l.self.entries ≡ l.fn.self.entries) × (l.fn.self.commit ≤ l.self.commit) × (l.self.commit ≤ max l.fn.self.commit l.index)
    × (l.fresh ≡ paired (drop (filled (take l.fn.self.commit l.fn.self.entries)) l.slots) (contents (drop l.fn.self.commit (take l.self.commit l.fn.self.entries))))

abbrev pub decreases-up : goal.decreases-up
decreases-up l = l.index - l.self.commit
