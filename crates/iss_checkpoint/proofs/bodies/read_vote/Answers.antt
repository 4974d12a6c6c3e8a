use Rattle.iss_request.proofs.Readings.{exit, read_done, read_then, unread_first, unread_then}
use Rattle.iss_checkpoint.specs.Bodies.{parse_vote}
use Rattle.iss_checkpoint.proofs.bodies.read_vote.Goals as goal

pub returns-in_err-chain-clause-bad : goal.returns-in_err-chain-clause-bad
unfolding parse_vote
returns-in_err-chain-clause-bad c = exit c.from_residual.result _ _ c.from_residual.ensures.1 (λ at e. unread_first _ _ (c.in_err-chain.ensures.bad at e))

pub returns-in_err-requests-clause-bad : goal.returns-in_err-requests-clause-bad
unfolding parse_vote
returns-in_err-requests-clause-bad c =
    exit c.from_residual-in_err-requests.result _ _ c.from_residual-in_err-requests.ensures.1 (λ at e.
    unread_then _ _ c.in_ok-chain.ensures.ok
    (unread_first _ _ (c.in_err-requests.ensures.bad at e)))

pub returns-in_err-sig-clause-bad : goal.returns-in_err-sig-clause-bad
unfolding parse_vote
returns-in_err-sig-clause-bad c =
    exit c.from_residual-in_err-sig.result _ _ c.from_residual-in_err-sig.ensures.1 (λ at e.
    unread_then _ _ c.in_ok-chain.ensures.ok
    (unread_then _ _ c.in_ok-requests.ensures.ok
    (unread_first _ _ (c.in_err-sig.ensures.bad at e))))

pub returns-clause-ok : goal.returns-clause-ok
unfolding parse_vote
returns-clause-ok c =
    read_then _ _ c.in_ok-chain.ensures.ok
    (read_then _ _ c.in_ok-requests.ensures.ok
    (read_then _ _ c.in_ok-sig.ensures.ok (read_done _ _)))
