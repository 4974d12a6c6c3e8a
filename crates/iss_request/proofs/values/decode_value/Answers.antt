use Rattle.iss_request.specs.Formats.{parse_value}
use Rattle.iss_request.proofs.Readings.{exit, unread_whole, unread_end, read_whole}
use Rattle.iss_request.proofs.values.decode_value.Goals as goal

pub returns-in_err-value-clause-bad : goal.returns-in_err-value-clause-bad
returns-in_err-value-clause-bad c =
    exit c.from_residual.result _ _ c.from_residual.ensures.1 (λ at e.
    unread_whole parse_value c.args.version c.args.bytes.now c.over-f.result at c.over-f.ensures
    (c.in_err-value.ensures.bad at e))

pub returns-then-not-is_done-clause-bad : goal.returns-then-not-is_done-clause-bad
returns-then-not-is_done-clause-bad c at e =
    unread_end parse_value c.args.version c.args.bytes.now c.over-f.result _ _ _ at c.over-f.ensures
    c.in_ok-value.ensures.ok c.if-not-is_done.ensures c.bad_field.ensures e

pub returns-clause-ok : goal.returns-clause-ok
returns-clause-ok c = read_whole parse_value c.args.version c.args.bytes.now c.over-f.result _ _ c.over-f.ensures
    c.in_ok-value.ensures.ok c.if-not-is_done.ensures
