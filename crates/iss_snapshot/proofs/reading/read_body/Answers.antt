use Rattle.iss_request.proofs.Readings.{exit, read_done, read_then, unread_first, unread_then}
use Rattle.iss_snapshot.specs.Snapshots.{parse_body}
use Rattle.iss_snapshot.proofs.reading.read_body.Goals as goal

pub returns-in_err-leaf-clause-bad : goal.returns-in_err-leaf-clause-bad
unfolding parse_body
returns-in_err-leaf-clause-bad c =
    exit c.from_residual.result _ _ c.from_residual.ensures.1 (λ at e.
    (unread_first _ _ (c.in_err-leaf.ensures.bad at e)))

pub returns-in_err-waiting-clause-bad : goal.returns-in_err-waiting-clause-bad
unfolding parse_body
returns-in_err-waiting-clause-bad c =
    exit c.from_residual-in_err-waiting.result _ _ c.from_residual-in_err-waiting.ensures.1 (λ at e.
    (unread_then _ _ c.in_ok-leaf.ensures.ok
    (unread_first _ _ (c.in_err-waiting.ensures.bad at e))))

pub returns-in_err-certs-clause-bad : goal.returns-in_err-certs-clause-bad
unfolding parse_body
returns-in_err-certs-clause-bad c =
    exit c.from_residual-in_err-certs.result _ _ c.from_residual-in_err-certs.ensures.1 (λ at e.
    (unread_then _ _ c.in_ok-leaf.ensures.ok
    (unread_then _ _ c.in_ok-waiting.ensures.ok
    (unread_first _ _ (c.in_err-certs.ensures.bad at e)))))

pub returns-in_err-votes-clause-bad : goal.returns-in_err-votes-clause-bad
unfolding parse_body
returns-in_err-votes-clause-bad c =
    exit c.from_residual-in_err-votes.result _ _ c.from_residual-in_err-votes.ensures.1 (λ at e.
    (unread_then _ _ c.in_ok-leaf.ensures.ok
    (unread_then _ _ c.in_ok-waiting.ensures.ok
    (unread_then _ _ c.in_ok-certs.ensures.ok
    (unread_first _ _ (c.in_err-votes.ensures.bad at e))))))

pub returns-in_err-early-clause-bad : goal.returns-in_err-early-clause-bad
unfolding parse_body
returns-in_err-early-clause-bad c =
    exit c.from_residual-in_err-early.result _ _ c.from_residual-in_err-early.ensures.1 (λ at e.
    (unread_then _ _ c.in_ok-leaf.ensures.ok
    (unread_then _ _ c.in_ok-waiting.ensures.ok
    (unread_then _ _ c.in_ok-certs.ensures.ok
    (unread_then _ _ c.in_ok-votes.ensures.ok
    (unread_first _ _ (c.in_err-early.ensures.bad at e)))))))

pub returns-clause-ok : goal.returns-clause-ok
unfolding parse_body
returns-clause-ok c =
    (read_then _ _ c.in_ok-leaf.ensures.ok
    (read_then _ _ c.in_ok-waiting.ensures.ok
    (read_then _ _ c.in_ok-certs.ensures.ok
    (read_then _ _ c.in_ok-votes.ensures.ok
    (read_then _ _ c.in_ok-early.ensures.ok
    (read_done _ _))))))
