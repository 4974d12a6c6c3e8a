use Rattle.std.proofs.Common.{◌≡◌}
use Rattle.sb_pbft.specs.Places.{change_at}
use Rattle.sb_pbft.specs.Rules.{changes_from}
use Rattle.sb_pbft.proofs.view_changes.ViewChanges.all.Given as goal

abbrev pub invariant-loop-node : goal.invariant-loop-node
invariant-loop-node l = l.all ≡ changes_from (change_at l.self l.view) 0 l.node
