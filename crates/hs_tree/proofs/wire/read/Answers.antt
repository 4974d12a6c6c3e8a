use Rattle.iss_request.proofs.Readings.{exit, read_done, read_then, unread_first, unread_then}
use Rattle.hs_tree.specs.Messages.{parse}
use Rattle.hs_tree.proofs.wire.read.Goals as goal

pub returns-in_err-body-clause-bad : goal.returns-in_err-body-clause-bad
unfolding parse
returns-in_err-body-clause-bad c =
    exit c.from_residual.result _ _ c.from_residual.ensures.1 (λ at e.
    unread_first _ _ (c.in_err-body.ensures.bad at e))

pub returns-in_err-sig-clause-bad : goal.returns-in_err-sig-clause-bad
unfolding parse
returns-in_err-sig-clause-bad c =
    exit c.from_residual-in_err-sig.result _ _ c.from_residual-in_err-sig.ensures.1 (λ at e.
    unread_then _ _ c.in_ok-body.ensures.ok
    (unread_first _ _ (c.in_err-sig.ensures.bad at e)))

pub returns-clause-ok : goal.returns-clause-ok
unfolding parse
returns-clause-ok c =
    read_then _ _ c.in_ok-body.ensures.ok
    (read_then _ _ c.in_ok-sig.ensures.ok
    (read_done _ _))
