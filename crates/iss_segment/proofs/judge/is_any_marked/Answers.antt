use Rattle.std.proofs.Common.{◌∙◌, sym}
use Rattle.iss_segment.proofs.MarksLemmas.{marked-split, or-left, or-right}
use Rattle.iss_segment.proofs.judge.is_any_marked.Goals as goal

pub returns-then-is_any_among : goal.returns-then-is_any_among
returns-then-is_any_among c = or-left _ _ _ c.is_any_among.ensures c.if-is_any_among.true ∙ sym (marked-split c.args.marked.now c.args.batch.now)

pub returns-else-is_any_among : goal.returns-else-is_any_among
returns-else-is_any_among c = or-right _ _ _ _ c.is_any_among.ensures c.if-is_any_among.false c.is_any_twice.ensures ∙ sym (marked-split c.args.marked.now c.args.batch.now)
