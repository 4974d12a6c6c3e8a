use Rattle.iss_request.proofs.Readings.{exit, read_done, read_then, unread_first, unread_then}
use Rattle.hs_tree.specs.Messages.{parse_vote}
use Rattle.hs_tree.proofs.wire.read_vote.Goals as goal

pub returns-in_err-phase-clause-bad : goal.returns-in_err-phase-clause-bad
unfolding parse_vote
returns-in_err-phase-clause-bad c =
    exit c.from_residual.result _ _ c.from_residual.ensures.1 (λ at e.
    unread_first _ _ (c.in_err-phase.ensures.bad at e))

pub returns-in_err-view-clause-bad : goal.returns-in_err-view-clause-bad
unfolding parse_vote
returns-in_err-view-clause-bad c =
    exit c.from_residual-in_err-view.result _ _ c.from_residual-in_err-view.ensures.1 (λ at e.
    unread_then _ _ c.in_ok-phase.ensures.ok
    (unread_first _ _ (c.in_err-view.ensures.bad at e)))

pub returns-in_err-digest-clause-bad : goal.returns-in_err-digest-clause-bad
unfolding parse_vote
returns-in_err-digest-clause-bad c =
    exit c.from_residual-in_err-digest.result _ _ c.from_residual-in_err-digest.ensures.1 (λ at e.
    unread_then _ _ c.in_ok-phase.ensures.ok
    (unread_then _ _ c.in_ok-view.ensures.ok
    (unread_first _ _ (c.in_err-digest.ensures.bad at e))))

pub returns-clause-ok : goal.returns-clause-ok
unfolding parse_vote
returns-clause-ok c =
    read_then _ _ c.in_ok-phase.ensures.ok
    (read_then _ _ c.in_ok-view.ensures.ok
    (read_then _ _ c.in_ok-digest.ensures.ok
    (read_done _ _)))
