use Rattle.iss_request.proofs.Readings.{exit, read_done, read_then, unread_first, unread_then}
use Rattle.iss_sb.proofs.Read.{read-by, unread-by}
use Rattle.iss_sb.specs.Content.{parse_content}
use Rattle.hs_tree.specs.Messages.{parse_prepare}
use Rattle.hs_tree.proofs.wire.read_prepare.Goals as goal

pub returns-in_err-view-clause-bad : goal.returns-in_err-view-clause-bad
unfolding parse_prepare
returns-in_err-view-clause-bad c =
    exit c.from_residual.result _ _ c.from_residual.ensures.1 (λ at e.
    unread_first _ _ (c.in_err-view.ensures.bad at e))

pub returns-in_err-what-clause-bad : goal.returns-in_err-what-clause-bad
unfolding parse_prepare
returns-in_err-what-clause-bad c =
    exit c.from_residual-in_err-what.result _ _ c.from_residual-in_err-what.ensures.1 (λ at e.
    unread_then _ _ c.in_ok-view.ensures.ok
    (unread_first _ _ (unread-by parse_content c.in_ok-view.ensures.ok.version (c.in_err-what.ensures.bad at e))))

pub returns-in_err-just-clause-bad : goal.returns-in_err-just-clause-bad
unfolding parse_prepare
returns-in_err-just-clause-bad c =
    exit c.from_residual-in_err-just.result _ _ c.from_residual-in_err-just.ensures.1 (λ at e.
    unread_then _ _ c.in_ok-view.ensures.ok
    (unread_then _ _ (read-by parse_content c.in_ok-view.ensures.ok.version c.in_ok-what.ensures.ok)
    (unread_first _ _ (c.in_err-just.ensures.bad at e))))

pub returns-clause-ok : goal.returns-clause-ok
unfolding parse_prepare
returns-clause-ok c =
    read_then _ _ c.in_ok-view.ensures.ok
    (read_then _ _ (read-by parse_content c.in_ok-view.ensures.ok.version c.in_ok-what.ensures.ok)
    (read_then _ _ c.in_ok-just.ensures.ok
    (read_done _ _)))
