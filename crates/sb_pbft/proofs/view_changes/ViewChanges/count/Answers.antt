use Rattle.sb_pbft.specs.Places.{change_at}
use Rattle.sb_pbft.proofs.Refinement.LoopsOverTables.{change-count-step, change-count-still}
use Rattle.sb_pbft.proofs.view_changes.ViewChanges.count.Goals as goal
use Rattle.sb_pbft.proofs.view_changes.ViewChanges.count.Goals.{then-has, else-has}

pub loop-node-preserved : goal.loop-node-preserved
loop-node-preserved c =
    let g = change_at c.args.self.now c.args.view in
    elim c.if-has.branch [
      | then-has w ↦ change-count-step g c.loop-node.node c.loop-node.count c.if-has.count _ c.has.ensures w.if-has.true c.loop-node.invariant w.count-is
      | else-has w ↦ change-count-still g c.loop-node.node c.loop-node.count c.if-has.count _ c.has.ensures w.if-has.false c.loop-node.invariant w.count-is
    ]
