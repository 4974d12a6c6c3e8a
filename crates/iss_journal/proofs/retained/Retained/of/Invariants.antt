use Rattle.std.proofs.Common.{take}
use Rattle.iss_journal.specs.EntryViews.{entries_in}
use Rattle.iss_journal.specs.RetainedViews.{Retains}
use Rattle.iss_journal.proofs.retained.Retained.of.Given as goal

abbrev pub invariant-loop-k : goal.invariant-loop-k
invariant-loop-k l = Retains (take l.k (entries_in l.all)) l.kept
