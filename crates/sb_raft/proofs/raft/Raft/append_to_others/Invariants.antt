use Rattle.std.proofs.Common.{◌≡◌, ◌++◌}
use Rattle.iss_sb.specs.Calls.{AreToNodes}
use Rattle.sb_raft.specs.Rules.{append_to, others, to_each}
use Rattle.sb_raft.specs.Refines.{Fits, held}
use Rattle.sb_raft.proofs.raft.Raft.append_to_others.Given as goal

abbrev pub invariant-loop-k : goal.invariant-loop-k
invariant-loop-k l =
    (Fits (held l.self) → l.sends ≡ l.fn.sends ++ to_each (append_to (held l.self)) (others l.self.me.0 l.k))
    × (AreToNodes l.context.p.now.setup.n l.fn.sends → AreToNodes l.context.p.now.setup.n l.sends)
