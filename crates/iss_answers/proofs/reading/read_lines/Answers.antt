use Rattle.std.proofs.lemmas.Result.{err_from_is_err_and}
use Rattle.iss_answers.proofs.ReadLemmas.{at-end, at-reply, no-next}
use Rattle.iss_answers.proofs.reading.read_lines.Goals as goal

pub returns-in_err-line-clause-bad : goal.returns-in_err-line-clause-bad
returns-in_err-line-clause-bad c =
    let p = err_from_is_err_and c.from_residual.result c.from_residual.ensures.1 in
    rw (p.1, p.2)
    (no-next c.args.lines.now.rest c.lines.replies c.lines.lines c.in_err-line.field-0.0 c.lines.invariant c.in_err-line.ensures.bad)

pub returns-then-is_last-clause-text : goal.returns-then-is_last-clause-text
returns-then-is_last-clause-text c =
    (at-end c.args.lines.now.rest c.lines.replies c.in_ok-line.line.now c.lines.lines c.next_line.new.lines c.lines.invariant (c.is_last.ensures.0 c.if-is_last.true) c.in_ok-line.ensures.ok c.in_ok-line.ensures.count c.in_ok-line.ensures.room).text

pub lines-preserved : goal.lines-preserved
lines-preserved c =
    at-reply c.args.lines.now.rest c.lines.replies c.push.new.self c.in_ok-reply.reply c.in_ok-line.line.now c.lines.lines c.next_line.new.lines c.lines.invariant c.in_ok-push.ensures.ok c.in_ok-reply.ensures.line c.in_ok-reply.ensures.range c.in_ok-line.ensures.ok c.in_ok-line.ensures.count c.in_ok-line.ensures.room
