use Rattle.std.proofs.Common.{take}
use Rattle.iss_keep.specs.Internal.Replays.{IsReaderOf, IsRebuiltBy}
use Rattle.iss_keep.proofs.reopening.rebuild.Given as goal

abbrev pub invariant-loop-k : goal.invariant-loop-k
invariant-loop-k g l =
    IsRebuiltBy l.setup g.M.Sequenced.spec g.M.Sequenced.refines l.fn.me.0 (take l.k l.journal.entries) l.rebuilding
    × IsReaderOf l.setup l.fn.me l.rebuilding
