use Rattle.iss_request.proofs.Readings.{exit, read_done, read_then, unread_first, unread_then}
use Rattle.hs_tree.specs.Messages.{parse_new_view}
use Rattle.hs_tree.proofs.wire.read_new_view.Goals as goal

pub returns-in_err-round-clause-bad : goal.returns-in_err-round-clause-bad
unfolding parse_new_view
returns-in_err-round-clause-bad c =
    exit c.from_residual.result _ _ c.from_residual.ensures.1 (λ at e.
    unread_first _ _ (c.in_err-round.ensures.bad at e))

pub returns-in_err-high-clause-bad : goal.returns-in_err-high-clause-bad
unfolding parse_new_view
returns-in_err-high-clause-bad c =
    exit c.from_residual-in_err-high.result _ _ c.from_residual-in_err-high.ensures.1 (λ at e.
    unread_then _ _ c.in_ok-round.ensures.ok
    (unread_first _ _ (c.in_err-high.ensures.bad at e)))

pub returns-clause-ok : goal.returns-clause-ok
unfolding parse_new_view
returns-clause-ok c =
    read_then _ _ c.in_ok-round.ensures.ok
    (read_then _ _ c.in_ok-high.ensures.ok
    (read_done _ _))
