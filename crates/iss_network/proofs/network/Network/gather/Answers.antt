use Rattle.std.proofs.Common.{◌≡◌, ◌<◌, ◌∙◌, true, false, length, filter, [], ◌++◌, sym, ap, arith}
use Rattle.std.proofs.lemmas.List.{append-nil, get_or-set_same}
use Rattle.iss_base.specs.Lists.{nth}
use Rattle.iss_network.specs.Network.{flag_at}
use Rattle.iss_network.specs.Kept.{is_set, for_core, flagged}
use Rattle.iss_network.proofs.Keeping.{pruned_kept_at, any_default, flag_is}
use Rattle.iss_network.proofs.network.Network.gather.Goals as goal

pub invariant_of-self : goal.invariant_of-self
invariant_of-self c =
    let cores : length c.self.inside.held.items ≡ length c.args.self.now.held = ap (λ w. length w.held) c.self.view_is in
    let there : c.args.core < length c.self.inside.queues.items = omega arith in
    pruned_kept_at c.self.inside.packets.items c.self.inside.waiting.items c.self.inside.queues.items c.self.inside.held.items c.args.core c.prune.new.self
    c.self.invariant there
    (c.prune.ensures ∙ ap (λ flags. filter (is_set flags) c.index_mut.result.now) c.deref.ensures.value
    ∙ ap (filter (is_set c.self.inside.waiting.items)) (c.index_mut.ensures.value ∙ any_default c.self.inside.queues.items c.args.core c.index_mut.result.now [] there))

pub invariant_of-self-in_err-extend_from_slice : goal.invariant_of-self-in_err-extend_from_slice
invariant_of-self-in_err-extend_from_slice c =
    let cores : length c.self.inside.held.items ≡ length c.args.self.now.held = ap (λ w. length w.held) c.self.view_is in
    let there : c.args.core < length c.self.inside.queues.items = omega arith in
    pruned_kept_at c.self.inside.packets.items c.self.inside.waiting.items c.self.inside.queues.items c.self.inside.held.items c.args.core c.prune.new.self
    c.self.invariant there
    (c.prune.ensures ∙ ap (λ flags. filter (is_set flags) c.index_mut.result.now) c.deref.ensures.value
    ∙ ap (filter (is_set c.self.inside.waiting.items)) (c.index_mut.ensures.value ∙ any_default c.self.inside.queues.items c.args.core c.index_mut.result.now [] there))

pub returns-in_ok-extend_from_slice-clause-added : goal.returns-in_ok-extend_from_slice-clause-added
returns-in_ok-extend_from_slice-clause-added c =
    let cores : length c.self.inside.held.items ≡ length c.args.self.now.held = ap (λ w. length w.held) c.self.view_is in
    let there : c.args.core < length c.self.inside.queues.items = omega arith in
    let flag : flag_at (nth c.self.inside.held.items c.args.core) ≡ false = flag_is c.self.inside.held.items c.args.core c.index.result.now (omega arith) c.index.ensures ∙ c.if-not-index.true in
    let queue : c.prune.new.self ≡ filter (for_core c.self.inside.packets.items c.args.core) (flagged c.self.inside.waiting.items) =
    c.prune.ensures ∙ ap (λ flags. filter (is_set flags) c.index_mut.result.now) c.deref.ensures.value
    ∙ ap (filter (is_set c.self.inside.waiting.items)) (c.index_mut.ensures.value ∙ any_default c.self.inside.queues.items c.args.core c.index_mut.result.now [] there)
    ∙ c.self.invariant.4 c.args.core there in
    let lent : c.numbers.result.now ≡ c.prune.new.self =
    c.numbers.ensures ∙ c.index-then-not-index.ensures ∙ get_or-set_same c.self.inside.queues.items c.args.core c.prune.new.self c.index-then-not-index.result.now there in
    rw (← c.self.view_is, flag) (c.in_ok-extend_from_slice.ensures.items ∙ ap (λ q. c.args.numbers.now.items ++ q) (lent ∙ queue))

pub returns-else-not-index-clause-added : goal.returns-else-not-index-clause-added
returns-else-not-index-clause-added c =
    let cores : length c.self.inside.held.items ≡ length c.args.self.now.held = ap (λ w. length w.held) c.self.view_is in
    let flag : flag_at (nth c.self.inside.held.items c.args.core) ≡ true = flag_is c.self.inside.held.items c.args.core c.index.result.now (omega arith) c.index.ensures ∙ c.if-not-index.false in
    rw (← c.self.view_is, flag) (sym (append-nil c.args.numbers.now.items))
