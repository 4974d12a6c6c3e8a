use Rattle.std.proofs.Common.{◌∙◌, ℕ, List, ap, arith}
use Rattle.iss_sb.specs.declared.signers.Signed.{Signed}
use Rattle.sb_pbft.specs.Places.{vote_at}
use Rattle.sb_pbft.proofs.Refinement.LoopsOverTables.{votes-full, votes-out, votes-step}
use Rattle.sb_pbft.proofs.tallies.Votes.votes.Goals as goal
use Rattle.sb_pbft.proofs.tallies.Votes.votes.Goals.{then-len-most+then-has_voted+in_ok-sig+in_ok-push, else-len-most, else-len-most-via-then-len-most+else-has_voted, else-len-most-via-else-len-most}

pub loop-node-preserved : goal.loop-node-preserved
loop-node-preserved c =
    let g = vote_at c.args.self.now c.args.view c.args.slot.0 in
    let d = c.args.digest.now in
    elim c.if-len-most.branch [
      | then-len-most+then-has_voted+in_ok-sig+in_ok-push w ↦
          votes-step g d c.loop-node.node c.args.most c.loop-node.votes c.if-len-most.votes _ _ c.loop-node.invariant (let few = w.if-len-most.true in let long = c.len.ensures in omega (arith, few, long))
          w.has_voted.ensures w.if-has_voted.true (ap (λ (s : List ℕ). let x : Signed = record { by = record { 0 = c.loop-node.node }; sig = s } in x) w.in_ok-sig.ensures) (w.votes-is ∙ w.in_ok-push.ensures.ok)
      | else-len-most w ↦ elim w.else-len-most.branch [
        | else-len-most-via-then-len-most+else-has_voted x ↦ votes-out g d c.loop-node.node c.args.most c.loop-node.votes c.if-len-most.votes _ c.loop-node.invariant x.has_voted.ensures x.if-has_voted.false w.votes-is
        | else-len-most-via-else-len-most x ↦
            votes-full g d c.loop-node.node c.args.most c.loop-node.votes c.if-len-most.votes c.loop-node.invariant (let full = x.if-len-most.false in let long = c.len.ensures in omega (arith, full, long)) w.votes-is
      ]
    ]
