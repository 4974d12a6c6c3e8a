use Rattle.iss_request.proofs.Readings.{exit, read_done, read_then, unread_first, unread_then}
use Rattle.hs_tree.specs.Messages.{parse_shown}
use Rattle.hs_tree.proofs.wire.read_shown.Goals as goal

pub returns-in_err-view-clause-bad : goal.returns-in_err-view-clause-bad
unfolding parse_shown
returns-in_err-view-clause-bad c message =
    exit c.from_residual.result _ _ c.from_residual.ensures.1 (λ at e.
    unread_first _ _ (c.in_err-view.ensures.bad at e))

pub returns-in_err-shown-clause-bad : goal.returns-in_err-shown-clause-bad
unfolding parse_shown
returns-in_err-shown-clause-bad c message =
    exit c.from_residual-in_err-shown.result _ _ c.from_residual-in_err-shown.ensures.1 (λ at e.
    unread_then _ _ c.in_ok-view.ensures.ok
    (unread_first _ _ (c.in_err-shown.ensures.bad at e)))

pub returns-clause-ok : goal.returns-clause-ok
unfolding parse_shown
returns-clause-ok c message =
    read_then _ _ c.in_ok-view.ensures.ok
    (read_then _ _ c.in_ok-shown.ensures.ok
    (read_done _ _))
