use Rattle.std.proofs.Common.{◌∙◌, List, ℕ, false, sym, ap, arith}
use Rattle.iss_network.specs.Network.{Network}
use Rattle.iss_network.specs.Kept.{flagged}
use Rattle.iss_network.proofs.Keeping.{settled_kept, settled_waits, set_beyond}
use Rattle.iss_network.proofs.network.Network.settle.Goals as goal

pub invariant_of-self : goal.invariant_of-self
invariant_of-self c =
    settled_kept c.self.inside.packets.items c.self.inside.waiting.items c.self.inside.queues.items c.self.inside.held.items c.args.number c.self.invariant

pub returns-then-place-len : goal.returns-then-place-len
returns-then-place-len c =
    let seen : List ℕ → Network = λ waits. record { packets = c.self.inside.packets.items; waits = waits; held = c.self.inside.held.items } in
    rw (← c.self.view_is) (ap seen (settled_waits c.self.inside.waiting.items c.args.number))

pub returns-else-place-len : goal.returns-else-place-len
returns-else-place-len c =
    let seen : List ℕ → Network = λ waits. record { packets = c.self.inside.packets.items; waits = waits; held = c.self.inside.held.items } in
    let same = set_beyond c.self.inside.waiting.items c.args.number false (omega arith) in
    rw (← c.self.view_is) (ap seen (ap flagged (sym same) ∙ settled_waits c.self.inside.waiting.items c.args.number))
