use Rattle.std.proofs.Common.{◌≡◌, ◌≤◌, length}
use Rattle.sb_pbft.specs.Places.{change_at}
use Rattle.sb_pbft.specs.Rules.{changes_from}
use Rattle.sb_pbft.proofs.view_changes.ViewChanges.count.Given as goal

abbrev pub invariant-loop-node : goal.invariant-loop-node
invariant-loop-node l = (l.count ≡ length (changes_from (change_at l.self l.view) 0 l.node)) × (l.count ≤ l.node)
