use Rattle.std.proofs.Common.{◌≤◌, take}
use Rattle.iss_keep.specs.Internal.Replays.{IsOf, IsReplayed}
use Rattle.iss_keep.proofs.reopening.replay_behind.Given as goal

abbrev pub invariant-loop-k : goal.invariant-loop-k
invariant-loop-k g l =
    IsReplayed l.setup g.M.Sequenced.spec g.M.Sequenced.refines l.fn.node.state.me.0 (take l.k l.journal.entries) l.node
    × IsOf l.setup l.fn.node.state.me l.node × (l.front ≤ l.k)
