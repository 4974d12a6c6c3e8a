use Rattle.std.proofs.Common.{◌∙◌, ◌<◌, ◌≤◌, length, not, reverse, get_or, sym, ap, arith}
use Rattle.std.proofs.lemmas.List.{length-reverse}
use Rattle.iss_request.specs.Formats.{is_batch}
use Rattle.iss_node.proofs.Log.NilSlots.{nil-at, nil-past}
use Rattle.iss_node.proofs.growth.is_nil.Goals as goal

pub returns-then-slot-entries : goal.returns-then-slot-entries
returns-then-slot-entries c =
    let n = length-reverse c.args.log.now.entries in
    let le : length (reverse c.args.log.now.entries) ≤ c.args.slot.0 = omega (arith, n, c.if-slot-entries.true, ap (λ xs. length xs) c.entries.ensures) in
    sym (nil-past (reverse c.args.log.now.entries) c.args.slot.0 le)

pub returns-in-Nil : goal.returns-in-Nil
returns-in-Nil c =
    let lt : c.args.slot.0 < length c.args.log.now.entries = omega (arith, c.if-slot-entries.false, ap (λ xs. length xs) c.entries.ensures) in
    sym (ap (λ v. not (is_batch v)) c.in-Nil.is)
    ∙ nil-at c.args.log.now.entries c.args.slot.0 c.index-entries-slot.result lt (c.index-entries-slot.is ∙ ap (λ xs. get_or xs c.args.slot.0 c.index-entries-slot.result) c.entries-2.ensures)

pub returns-in-Batch : goal.returns-in-Batch
returns-in-Batch c =
    let lt : c.args.slot.0 < length c.args.log.now.entries = omega (arith, c.if-slot-entries.false, ap (λ xs. length xs) c.entries.ensures) in
    sym (ap (λ v. not (is_batch v)) c.in-Batch.is)
    ∙ nil-at c.args.log.now.entries c.args.slot.0 c.index-entries-slot.result lt (c.index-entries-slot.is ∙ ap (λ xs. get_or xs c.args.slot.0 c.index-entries-slot.result) c.entries-2.ensures)
