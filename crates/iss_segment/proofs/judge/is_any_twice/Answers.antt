use Rattle.std.proofs.Common.{◌∙◌, ◌<◌, length, sym, arith}
use Rattle.iss_segment.proofs.MarksLemmas.{twice-next, or-left, or-skip}
use Rattle.iss_segment.proofs.judge.is_any_twice.Goals as goal

pub returns-then-is_among : goal.returns-then-is_among
returns-then-is_among c =
    let lt : c.loop-place.place < length c.args.batch.now = omega (arith, c.loop-place-test.true) in
    sym c.if-is_among.true ∙ or-left _ _ _ c.is_among.ensures c.if-is_among.true
    ∙ sym (c.loop-place.invariant ∙ twice-next c.args.batch.now c.loop-place.place c.index-batch-place.result lt c.index-batch-place.is c.behind.result.now c.behind.ensures)

pub loop-place-preserved : goal.loop-place-preserved
loop-place-preserved c =
    let lt : c.loop-place.place < length c.args.batch.now = omega (arith, c.loop-place-test.true) in
    c.loop-place.invariant
    ∙ twice-next c.args.batch.now c.loop-place.place c.index-batch-place.result lt c.index-batch-place.is c.behind.result.now c.behind.ensures
    ∙ or-skip _ _ _ c.is_among.ensures c.if-is_among.false
