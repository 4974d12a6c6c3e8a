use Rattle.std.proofs.Common.{◌∙◌, false, take, set, get_or, sym, ap, arith}
use Rattle.std.proofs.lemmas.List.{take_more}
use Rattle.iss_network.specs.Kept.{cleared_flags}
use Rattle.iss_network.proofs.Keeping.{cleared_end}
use Rattle.iss_network.proofs.queues.Queue.clear.Goals as goal

pub loop-number-preserved : goal.loop-number-preserved
loop-number-preserved c =
    let numbers = c.deref-number-items.result.now in
    let i = c.loop-number.number-index in
    let number = get_or numbers i 0 in
    c.lower.ensures
    ∙ ap (λ flags. set flags number false) c.loop-number.invariant
    ∙ sym (cleared_end (take i numbers) number c.args.waiting.now)
    ∙ ap (λ ks. cleared_flags ks c.args.waiting.now) (sym (take_more numbers i 0 (omega arith)))
