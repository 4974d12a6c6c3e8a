use Rattle.iss_request.proofs.Readings.{exit, read_done, read_then, unread_first, unread_then}
use Rattle.raft_wire.specs.Messages.{parse_vote}
use Rattle.raft_wire.proofs.wire.read_vote.Goals as goal

pub returns-in_err-term-clause-bad : goal.returns-in_err-term-clause-bad
unfolding parse_vote
returns-in_err-term-clause-bad c =
    exit c.from_residual.result _ _ c.from_residual.ensures.1 (λ at e.
    unread_first _ _ (c.in_err-term.ensures.bad at e))

pub returns-in_err-granted-clause-bad : goal.returns-in_err-granted-clause-bad
unfolding parse_vote
returns-in_err-granted-clause-bad c =
    exit c.from_residual-in_err-granted.result _ _ c.from_residual-in_err-granted.ensures.1 (λ at e.
    unread_then _ _ c.in_ok-term.ensures.ok
    (unread_first _ _ (c.in_err-granted.ensures.bad at e)))

pub returns-clause-ok : goal.returns-clause-ok
unfolding parse_vote
returns-clause-ok c =
    read_then _ _ c.in_ok-term.ensures.ok
    (read_then _ _ c.in_ok-granted.ensures.ok
    (read_done _ _))
