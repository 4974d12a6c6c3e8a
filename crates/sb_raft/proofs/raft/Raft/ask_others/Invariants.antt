use Rattle.std.proofs.Common.{◌≡◌, ◌<◌, ◌^◌, length}
use Rattle.iss_sb.specs.Calls.{AreToNodes}
use Rattle.sb_raft.specs.Rules.{ask_vote, others, to_each}
use Rattle.sb_raft.specs.Refines.{held}
use Rattle.sb_raft.proofs.raft.Raft.ask_others.Given as goal

abbrev pub invariant-loop-k : goal.invariant-loop-k
invariant-loop-k l =
    (length l.self.log.entries < 2 ^ 32 → l.sends ≡ to_each (ask_vote (held l.self)) (others l.self.me.0 l.k))
    × AreToNodes l.context.p.now.setup.n l.sends
