use Rattle.hs_tree.proofs.Branches.{weight-few}
use Rattle.sb_hotstuff.proofs.Refinement.TurnRefines.{last-is, node-is, proposes-one}
use Rattle.std.proofs.Common.{refl, sym, subst, ℕ, ◌≤◌}
use Rattle.sb_hotstuff.proofs.state.Node.propose.Goals as goal

pub returns : goal.returns
returns c k t is small low h =
    let p = c.args.context.now.p.now in
    let hashed = c.in_ok-node.ensures in
    let one = subst (λ (z : ℕ). z ≤ 1) (sym c.weight.ensures) (weight-few c.args.proposal.what) in
    proposes-one p c.args.self.now k c.args.proposal.view c.args.slots c.args.proposal.just c.args.proposal.what t is c.add.new.self c.in_ok-draft.draft c.digest-parent.result c.in_ok-node.node c.digest-parent.ensures hashed low h
    (c.in_ok-add.ensures t k.turns
    (last-is p c.args.self.now k c.args.proposal.view c.args.slots c.args.proposal.just c.args.proposal.what t is c.digest-parent.result c.in_ok-node.node.digest c.in_ok-node.node c.saturating_add-slots.result c.digest-parent.ensures hashed refl small
    c.weight.result c.weight.ensures one c.saturating_add-slots.ensures) h.turns)
    (c.in_ok-draft.ensures (node-is p c.args.self.now k c.args.proposal.view c.args.slots c.args.proposal.just c.args.proposal.what t is c.digest-parent.result c.in_ok-node.node c.digest-parent.ensures hashed))
