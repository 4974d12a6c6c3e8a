use Rattle.iss_request.proofs.Readings.{exit, read_done, read_then, unread_first, unread_then}
use Rattle.raft_wire.specs.Messages.{parse_ask}
use Rattle.raft_wire.proofs.wire.read_ask.Goals as goal

pub returns-in_err-term-clause-bad : goal.returns-in_err-term-clause-bad
unfolding parse_ask
returns-in_err-term-clause-bad c =
    exit c.from_residual.result _ _ c.from_residual.ensures.1 (λ at e.
    unread_first _ _ (c.in_err-term.ensures.bad at e))

pub returns-in_err-last-clause-bad : goal.returns-in_err-last-clause-bad
unfolding parse_ask
returns-in_err-last-clause-bad c =
    exit c.from_residual-in_err-last.result _ _ c.from_residual-in_err-last.ensures.1 (λ at e.
    unread_then _ _ c.in_ok-term.ensures.ok
    (unread_first _ _ (c.in_err-last.ensures.bad at e)))

pub returns-in_err-last_term-clause-bad : goal.returns-in_err-last_term-clause-bad
unfolding parse_ask
returns-in_err-last_term-clause-bad c =
    exit c.from_residual-in_err-last_term.result _ _ c.from_residual-in_err-last_term.ensures.1 (λ at e.
    unread_then _ _ c.in_ok-term.ensures.ok
    (unread_then _ _ c.in_ok-last.ensures.ok
    (unread_first _ _ (c.in_err-last_term.ensures.bad at e))))

pub returns-clause-ok : goal.returns-clause-ok
unfolding parse_ask
returns-clause-ok c =
    read_then _ _ c.in_ok-term.ensures.ok
    (read_then _ _ c.in_ok-last.ensures.ok
    (read_then _ _ c.in_ok-last_term.ensures.ok
    (read_done _ _)))
