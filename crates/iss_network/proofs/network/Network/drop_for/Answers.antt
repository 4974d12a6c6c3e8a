use Rattle.std.proofs.Common.{◌≡◌, ◌<◌, ◌∙◌, ℕ, List, Bool, length, get_or, set, [], sym, ap, subst, arith}
use Rattle.std.proofs.lemmas.List.{with_items_is}
use Rattle.iss_network.specs.Network.{Network}
use Rattle.iss_network.specs.Kept.{cleared_flags, IsKept, flagged}
use Rattle.iss_network.proofs.Keeping.{cleared_kept_at, cleared_waits, any_default}
use Rattle.iss_network.proofs.network.Network.drop_for.Goals as goal

pub invariant_of-self : goal.invariant_of-self
invariant_of-self c =
    let cores : length c.self.inside.held.items ≡ length c.args.self.now.held = ap (λ w. length w.held) c.self.view_is in
    let there : c.args.core < length c.self.inside.queues.items = omega arith in
    let kept = with_items_is c.self.inside.waiting c.clear.new.waiting (omega arith) in
    let flags : c.clear.new.waiting ≡ cleared_flags (get_or c.self.inside.queues.items c.args.core []) c.self.inside.waiting.items =
    c.clear.ensures.flags ∙ ap (cleared_flags c.index_mut.result.now) c.deref_mut.ensures.value
    ∙ ap (λ q. cleared_flags q c.self.inside.waiting.items) (c.index_mut.ensures.value ∙ any_default c.self.inside.queues.items c.args.core c.index_mut.result.now [] there) in
    let P : List Bool → Type 0 = λ f. IsKept c.self.inside.packets.items f (set c.self.inside.queues.items c.args.core c.clear.new.self) c.self.inside.held.items in
    subst P (sym kept)
    (cleared_kept_at c.self.inside.packets.items c.self.inside.waiting.items c.self.inside.queues.items c.self.inside.held.items c.args.core c.clear.new.waiting c.clear.new.self
    c.self.invariant there flags c.clear.ensures.empty)

pub returns : goal.returns
returns c =
    let cores : length c.self.inside.held.items ≡ length c.args.self.now.held = ap (λ w. length w.held) c.self.view_is in
    let there : c.args.core < length c.self.inside.queues.items = omega arith in
    let kept = with_items_is c.self.inside.waiting c.clear.new.waiting (omega arith) in
    let flags : c.clear.new.waiting ≡ cleared_flags (get_or c.self.inside.queues.items c.args.core []) c.self.inside.waiting.items =
    c.clear.ensures.flags ∙ ap (cleared_flags c.index_mut.result.now) c.deref_mut.ensures.value
    ∙ ap (λ q. cleared_flags q c.self.inside.waiting.items) (c.index_mut.ensures.value ∙ any_default c.self.inside.queues.items c.args.core c.index_mut.result.now [] there) in
    let seen : List ℕ → Network = λ waits. record { packets = c.self.inside.packets.items; waits = waits; held = c.self.inside.held.items } in
    rw (← c.self.view_is) (ap seen (ap flagged (kept ∙ flags) ∙ cleared_waits c.self.inside.packets.items c.self.inside.waiting.items c.self.inside.queues.items c.self.inside.held.items c.args.core c.self.invariant there))
