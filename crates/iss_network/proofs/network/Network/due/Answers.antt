use Rattle.std.proofs.Common.{◌≡◌, ◌∙◌, length, sym, ap, subst, arith}
use Rattle.iss_network.specs.Network.{Network, due}
use Rattle.iss_network.proofs.Keeping.{sorted_is_due, gathered_below}
use Rattle.iss_network.proofs.network.Network.due.Goals as goal

pub returns-clause-found : goal.returns-clause-found
returns-clause-found c =
    let end : c.loop-core.core ≡ length c.self.inside.held.items = omega arith in
    let all : c.loop-core.numbers.items ≡ gathered_below c.args.self.now (length c.self.inside.held.items) = c.loop-core.invariant.1 ∙ ap (gathered_below c.args.self.now) end in
    let P : Network → Type 0 = λ w. c.sort.new.self.items ≡ due w in
    subst P c.self.view_is
    (sorted_is_due c.self.inside.packets.items c.self.inside.waiting.items c.self.inside.queues.items c.self.inside.held.items
    c.loop-core.numbers.items c.sort.new.self.items c.self.invariant
    (all ∙ ap (λ w. gathered_below w (length c.self.inside.held.items)) (sym c.self.view_is))
    c.in_ok-sort.ensures.permutation c.in_ok-sort.ensures.sorted)
