use Rattle.std.proofs.Common.{ℕ, ◌/◌, ◌∷◌, refl, sym, ap, ◌∙◌, subst}
use Rattle.sb_chained.specs.Links.{Holds}
use Rattle.sb_chained.specs.Rules.{node_of}
use Rattle.hs_views.specs.Views.{Turn}
use Rattle.sb_chained.proofs.Refinement.InputRefines.{node-held}
use Rattle.sb_chained.proofs.Refinement.TurnRefines.{exact, full-is, last-is, node-is, proposes-one, view-is}
use Rattle.sb_chained.proofs.state.Node.propose.Goals as goal

pub returns : goal.returns
returns c k t is may h =
    let p = c.args.context.now.p.now in
    let m = c.args.self.now in
    let parent = c.digest-parent.result in
    let hp = c.digest-parent.ensures in
    let hash = c.in_ok-node.node in
    let hashed = c.in_ok-node.ensures in
    let all = c.saturating_add-slots.result in
    let hf = exact p m k c.args.proposal.view c.args.slots c.args.proposal.just c.args.proposal.what t is all c.weight.result c.weight.ensures may.small c.saturating_add-slots.ensures in
    let last = last-is p m k c.args.proposal.view c.args.slots c.args.proposal.just c.args.proposal.what t is hash.digest parent hash all hp hashed refl hf in
    let full = full-is p m k c.args.proposal.view c.args.slots c.args.proposal.just c.args.proposal.what t is all c.is_full-full.result hf c.is_full-full.ensures in
    let round = c.round_of.ensures ∙ ap (λ (z : ℕ). z / 65536) (view-is p m k c.args.proposal.view c.args.slots c.args.proposal.just c.args.proposal.what t is) in
    let there = node-held p m k h c.args.proposal.view c.view-from.result c.args.proposal.what c.args.proposal.just parent hash c.add-2.new.self hp c.view-from.ensures hashed (λ x xs a b e. c.in_ok-add-2.ensures x xs a b (e ∙ sym c.in_ok-held.ensures)) in
    proposes-one p m k c.args.proposal.view c.args.slots c.args.proposal.just c.args.proposal.what t is c.add.new.self c.add-2.new.self c.in_ok-draft.draft parent hash hp hashed may h
    (c.in_ok-add.ensures p t k.turns last round full h.turns)
    (subst (λ (z : Turn). Holds c.add-2.new.self (node_of z ∷ k.tree)) (sym is) there)
    (c.in_ok-draft.ensures (node-is p m k c.args.proposal.view c.args.slots c.args.proposal.just c.args.proposal.what t is parent hash hp hashed))
