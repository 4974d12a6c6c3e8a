use Rattle.std.proofs.Common.{arith}
use Rattle.std.proofs.lemmas.Result.{err_from_is_err_and}
use Rattle.iss_schedule.proofs.BadLines.PrefixesAreRead.{schedule_read}
use Rattle.iss_schedule.proofs.BadLines.RefusedLines.{refused_behind}
use Rattle.iss_schedule.proofs.reading.read_text.Goals as goal

pub returns-in_err-events-clause-bad : goal.returns-in_err-events-clause-bad
returns-in_err-events-clause-bad c =
    let p = err_from_is_err_and c.from_residual-in_err-events.result c.from_residual-in_err-events.ensures.1 in
    rw (p.1, p.2)
    (refused_behind c.in_ok-setup.setup c.args.bytes.now c.read_setup.new.lines.rest c.in_err-events.field-0.0
    c.in_ok-setup.ensures.known c.in_ok-setup.ensures.text (omega arith) c.in_err-events.ensures.bad)

pub returns-clause-ok : goal.returns-clause-ok
returns-clause-ok c =
    schedule_read c.in_ok-setup.setup c.in_ok-events.events c.args.bytes.now c.read_setup.new.lines.rest
    c.in_ok-setup.ensures.known c.in_ok-setup.ensures.text
    c.in_ok-events.ensures.text c.in_ok-events.ensures.range c.in_ok-events.ensures.few (omega arith)
