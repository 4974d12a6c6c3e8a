use Rattle.std.proofs.lemmas.Bool.{le-leb, lt-leb}
use Rattle.iss_request.specs.Formats.{parse_payload}
use Rattle.iss_request.proofs.Readings.{exit, named, read_then, unread_first, unread_then, read_passed, unread_failed, unread_tested}
use Rattle.iss_request.specs.Parsing.{block}
use Rattle.iss_request.proofs.ParserLemmas.{block_parts}
use Rattle.iss_request.proofs.Parts.{read_as_is}
use Rattle.iss_request.proofs.values.read_payload.Goals as goal

pub returns-in_err-size-clause-bad : goal.returns-in_err-size-clause-bad
unfolding parse_payload
returns-in_err-size-clause-bad c =
    exit c.from_residual.result _ _ c.from_residual.ensures.1 (λ at e.
    unread_first _ _ (unread_tested _ _ (c.in_err-size.ensures.bad at e)))

pub returns-then-size-gt-PAYLOAD_MAX-clause-bad : goal.returns-then-size-gt-PAYLOAD_MAX-clause-bad
unfolding parse_payload
returns-then-size-gt-PAYLOAD_MAX-clause-bad c at e =
    named parse_payload c.args.f.now _ _ at
    (unread_first _ _ (unread_failed _ _ c.in_ok-size.ensures.ok (lt-leb _ _ c.if-size-gt-PAYLOAD_MAX.true)))
    c.bad_field-too_long.ensures e

pub returns-in_err-_payload-clause-bad : goal.returns-in_err-_payload-clause-bad
unfolding parse_payload
returns-in_err-_payload-clause-bad c =
    exit c.from_residual-in_err-_payload.result _ _ c.from_residual-in_err-_payload.ensures.1 (λ at e.
    unread_then _ _ (read_passed _ _ c.in_ok-size.ensures.ok (le-leb _ _ c.if-size-gt-PAYLOAD_MAX.false))
    (c.in_err-_payload.ensures.bad at e))

pub returns-clause-ok : goal.returns-clause-ok
unfolding parse_payload
returns-clause-ok c =
    read_then _ _ (read_passed _ _ c.in_ok-size.ensures.ok (le-leb _ _ c.if-size-gt-PAYLOAD_MAX.false))
    (read_as_is (block _) (λ bytes rest x found. (block_parts _ bytes rest x found).parts) _ c.at-first.result
    c.in_ok-_payload.ensures.ok c.in_ok-since.ensures c.at-first.ensures)
