use Rattle.std.proofs.Common.{◌+◌, ◌%◌, ◌∙◌, sym, length, ap, arith}
use Rattle.iss_layout.specs.Layout.{Plan}
use Rattle.iss_layout.proofs.LayoutLemmas.{owner_turn}
use Rattle.iss_layout.proofs.layout.Layout.owner_of.Goals as goal

pub at_turn-requires : goal.at_turn-requires
at_turn-requires c =
    let long = c.self.invariant.0 in
    let shown = ap (λ (p : Plan). length p.leaders) c.self.view_is in
    omega (arith, c.rotated-else-leads.ensures.below)

pub returns-else-leads : goal.returns-else-leads
returns-else-leads c =
    let long = c.self.invariant.0 in
    owner_turn c.args.self.now c.args.bucket c.rotated.result c.rotated-else-leads.result c.at_turn.result
    (c.rotated.ensures.value ∙ ap (λ (p : Plan). (c.args.bucket + p.epoch) % p.nodes) c.self.view_is)
    (sym c.leads.ensures ∙ c.if-leads.false)
    (c.rotated-else-leads.ensures.value ∙ ap (λ k. (c.args.bucket + c.self.inside.epoch) % k) (sym long)
    ∙ ap (λ (p : Plan). (c.args.bucket + p.epoch) % length p.leaders) c.self.view_is)
    c.at_turn.ensures
