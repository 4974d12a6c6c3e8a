use Rattle.std.proofs.Common.{◌∙◌, ◌++◌, ap, reverse, take, ◌<◌, length}
use Rattle.iss_replay.specs.Text.{slot_line, slot_lines}
use Rattle.iss_replay.proofs.TextLemmas.{slots-next}
use Rattle.iss_replay.proofs.lines.put_slots.Goals as goal

pub loop-slot-preserved : goal.loop-slot-preserved
loop-slot-preserved c =
    let vs = c.args.log.now.entries in
    let i = c.loop-slot.slot in
    let v = c.index-entries-slot.result in
    let written = c.args.out.now.items ++ slot_lines (reverse (take i vs)) in
    let lt : i < length vs = rw c.entries-entries.ensures at c.loop-slot-test.true in
    c.in_ok-put_slot.ensures
    ∙ ap (λ t. t ++ slot_line i c.first_number-first.result v) c.loop-slot.invariant
    ∙ ap (λ k. written ++ slot_line i k v) c.first_number-first.ensures
    ∙ slots-next c.args.out.now.items vs i v lt (rw c.entries-entries.ensures at c.index-entries-slot.is)
