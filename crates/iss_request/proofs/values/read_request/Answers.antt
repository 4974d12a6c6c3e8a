use Rattle.iss_request.specs.Formats.{parse_request}
use Rattle.iss_request.proofs.Readings.{exit, read_then, unread_first, unread_then, read_done}
use Rattle.iss_request.proofs.values.read_request.Goals as goal

pub returns-in_err-client-clause-bad : goal.returns-in_err-client-clause-bad
unfolding parse_request
returns-in_err-client-clause-bad c =
    exit c.from_residual.result _ _ c.from_residual.ensures.1 (λ at e.
    unread_first _ _ (c.in_err-client.ensures.bad at e))

pub returns-in_err-number-clause-bad : goal.returns-in_err-number-clause-bad
unfolding parse_request
returns-in_err-number-clause-bad c =
    exit c.from_residual-in_err-number.result _ _ c.from_residual-in_err-number.ensures.1 (λ at e.
    unread_then _ _ c.in_ok-client.ensures.ok
    (unread_first _ _ (c.in_err-number.ensures.bad at e)))

pub returns-in_err-payload-clause-bad : goal.returns-in_err-payload-clause-bad
unfolding parse_request
returns-in_err-payload-clause-bad c =
    exit c.from_residual-in_err-payload.result _ _ c.from_residual-in_err-payload.ensures.1 (λ at e.
    unread_then _ _ c.in_ok-client.ensures.ok
    (unread_then _ _ c.in_ok-number.ensures.ok
    (unread_first _ _ (c.in_err-payload.ensures.bad at e))))

pub returns-in_err-sig-clause-bad : goal.returns-in_err-sig-clause-bad
unfolding parse_request
returns-in_err-sig-clause-bad c =
    exit c.from_residual-in_err-sig.result _ _ c.from_residual-in_err-sig.ensures.1 (λ at e.
    unread_then _ _ c.in_ok-client.ensures.ok
    (unread_then _ _ c.in_ok-number.ensures.ok
    (unread_then _ _ c.in_ok-payload.ensures.ok
    (unread_first _ _ (c.in_err-sig.ensures.bad at e)))))

pub returns-clause-ok : goal.returns-clause-ok
unfolding parse_request
returns-clause-ok c =
    read_then _ _ c.in_ok-client.ensures.ok
    (read_then _ _ c.in_ok-number.ensures.ok
    (read_then _ _ c.in_ok-payload.ensures.ok
    (read_then _ _ c.in_ok-sig.ensures.ok (read_done _ _))))
