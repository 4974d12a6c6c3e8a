use Rattle.iss_request.proofs.Readings.{exit, read_done, read_then, unread_first, unread_then}
use Rattle.iss_snapshot.specs.Snapshots.{parse_span}
use Rattle.iss_snapshot.proofs.reading.read_span.Goals as goal

pub returns-in_err-_kind-clause-bad : goal.returns-in_err-_kind-clause-bad
unfolding parse_span
returns-in_err-_kind-clause-bad c =
    exit c.from_residual.result _ _ c.from_residual.ensures.1 (λ at e.
    (unread_first _ _ (c.in_err-_kind.ensures.bad at e)))

pub returns-in_err-from-clause-bad : goal.returns-in_err-from-clause-bad
unfolding parse_span
returns-in_err-from-clause-bad c =
    exit c.from_residual-in_err-from.result _ _ c.from_residual-in_err-from.ensures.1 (λ at e.
    (unread_then _ _ c.in_ok-_kind.ensures.ok
    (unread_first _ _ (c.in_err-from.ensures.bad at e))))

pub returns-in_err-to-clause-bad : goal.returns-in_err-to-clause-bad
unfolding parse_span
returns-in_err-to-clause-bad c =
    exit c.from_residual-in_err-to.result _ _ c.from_residual-in_err-to.ensures.1 (λ at e.
    (unread_then _ _ c.in_ok-_kind.ensures.ok
    (unread_then _ _ c.in_ok-from.ensures.ok
    (unread_first _ _ (c.in_err-to.ensures.bad at e)))))

pub returns-clause-ok : goal.returns-clause-ok
unfolding parse_span
returns-clause-ok c =
    (read_then _ _ c.in_ok-_kind.ensures.ok
    (read_then _ _ c.in_ok-from.ensures.ok
    (read_then _ _ c.in_ok-to.ensures.ok
    (read_done _ _))))
