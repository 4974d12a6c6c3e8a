use Rattle.sb_pbft.specs.Places.{vote_at}
use Rattle.sb_pbft.proofs.Refinement.LoopsOverTables.{count-step, count-still}
use Rattle.sb_pbft.proofs.tallies.Votes.count.Goals as goal
use Rattle.sb_pbft.proofs.tallies.Votes.count.Goals.{then-has_voted, else-has_voted}

pub loop-node-preserved : goal.loop-node-preserved
loop-node-preserved c =
    let g = vote_at c.args.self.now c.args.view c.args.slot.0 in
    elim c.if-has_voted.branch [
      | then-has_voted w ↦ count-step g c.args.digest.now c.loop-node.node c.loop-node.count c.if-has_voted.count _ c.has_voted.ensures w.if-has_voted.true c.loop-node.invariant w.count-is
      | else-has_voted w ↦ count-still g c.args.digest.now c.loop-node.node c.loop-node.count c.if-has_voted.count _ c.has_voted.ensures w.if-has_voted.false c.loop-node.invariant w.count-is
    ]
