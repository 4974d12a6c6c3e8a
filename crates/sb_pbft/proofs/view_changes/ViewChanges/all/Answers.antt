use Rattle.std.proofs.Common.{◌∙◌, sym}
use Rattle.sb_pbft.specs.Places.{change_at}
use Rattle.sb_pbft.proofs.Refinement.LoopsOverTables.{change-step, change-still}
use Rattle.sb_pbft.proofs.view_changes.ViewChanges.all.Goals as goal
use Rattle.sb_pbft.proofs.view_changes.ViewChanges.all.Goals.{in-Some+in_ok-copy+in_ok-push, in_default}

pub loop-node-preserved : goal.loop-node-preserved
loop-node-preserved c =
    let g = change_at c.args.self.now c.args.view in
    elim c.match-get.branch [
      | in-Some+in_ok-copy+in_ok-push w ↦
          change-step g c.loop-node.node w.in-Some.change.now w.in_ok-copy.field-0 c.loop-node.all c.match-get.all c.loop-node.invariant (sym w.in-Some.ensures.value) w.in_ok-copy.ensures (w.all-is ∙ w.in_ok-push.ensures.ok)
      | in_default w ↦ change-still g c.loop-node.node c.loop-node.all c.match-get.all c.loop-node.invariant (sym w.in_default.ensures.value) w.all-is
    ]
