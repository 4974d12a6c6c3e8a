use Rattle.iss_request.proofs.Readings.{exit, read_done, read_then, unread_first, unread_then}
use Rattle.raft_wire.specs.Messages.{parse_reply}
use Rattle.raft_wire.proofs.wire.read_reply.Goals as goal

pub returns-in_err-term-clause-bad : goal.returns-in_err-term-clause-bad
unfolding parse_reply
returns-in_err-term-clause-bad c =
    exit c.from_residual.result _ _ c.from_residual.ensures.1 (λ at e.
    unread_first _ _ (c.in_err-term.ensures.bad at e))

pub returns-in_err-ok-clause-bad : goal.returns-in_err-ok-clause-bad
unfolding parse_reply
returns-in_err-ok-clause-bad c =
    exit c.from_residual-in_err-ok.result _ _ c.from_residual-in_err-ok.ensures.1 (λ at e.
    unread_then _ _ c.in_ok-term.ensures.ok
    (unread_first _ _ (c.in_err-ok.ensures.bad at e)))

pub returns-in_err-index-clause-bad : goal.returns-in_err-index-clause-bad
unfolding parse_reply
returns-in_err-index-clause-bad c =
    exit c.from_residual-in_err-index.result _ _ c.from_residual-in_err-index.ensures.1 (λ at e.
    unread_then _ _ c.in_ok-term.ensures.ok
    (unread_then _ _ c.in_ok-ok.ensures.ok
    (unread_first _ _ (c.in_err-index.ensures.bad at e))))

pub returns-clause-ok : goal.returns-clause-ok
unfolding parse_reply
returns-clause-ok c =
    read_then _ _ c.in_ok-term.ensures.ok
    (read_then _ _ c.in_ok-ok.ensures.ok
    (read_then _ _ c.in_ok-index.ensures.ok
    (read_done _ _)))
